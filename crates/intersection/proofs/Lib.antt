-- Steps (the walk, one step at a time).
pub mod Steps
