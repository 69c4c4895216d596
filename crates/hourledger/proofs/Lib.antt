-- Loaded: what is known of a form that was loaded, of one that is written, and of the ranges of a query. Judged: numbers that are too large.
pub mod Loaded
pub mod Judged
