-- Held: a struct is what it stores.
pub mod Held
pub mod OneOutcome
