-- Writing: the steps of the writer.
pub mod Writing
-- Reading: what stands in bytes at a place, the check, and the stores.
pub mod Reading
-- Steps: what the check of one place decides.
pub mod Steps
