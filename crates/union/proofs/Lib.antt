-- Steps (the walk, one step at a time), Unique (one answer).
pub mod Steps
pub mod Unique
