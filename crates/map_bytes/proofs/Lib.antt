-- One outcome of each exported function.
pub mod OneOutcome
