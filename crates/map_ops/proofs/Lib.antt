-- Columns (how long the columns of a sound map are, where it is lent).
mod Columns
