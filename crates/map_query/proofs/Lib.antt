-- Unique: two outcomes that meet the promise of an exported function are equal.
pub mod Unique
pub mod OneOutcome
