-- Laws (what each relation means, and that its promise has one answer), Returns (the answers, as code finds them), Cases (document 01).
pub mod Returns
pub mod Laws
pub mod Cases
pub mod OneOutcome
