-- Answered (what the functions of this crate answer).
pub mod Answered
