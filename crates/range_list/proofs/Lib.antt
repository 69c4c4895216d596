-- Answering: what is answered, and what the slices hold then; a start as the code writes it. Columns: the ranges of two columns, one place at a time.
-- Unique: one outcome.
pub mod Answering
pub mod Columns
pub mod Unique
