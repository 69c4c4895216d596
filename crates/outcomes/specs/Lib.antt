-- What a reader must believe of maps: Answered (what kinds of answer there are), Stored (what a map stores, what it holds, when it is well formed),
-- Outcomes (what each function answers and leaves),
-- Sets (the same for sets, and their intersection, union and total), Numbers (each answer's number and values).
-- InnerOutcome (how an edit went, as functions tell each other).
pub mod Stored
pub mod Lent
pub mod Answered
pub mod Numbers
pub mod Outcomes
pub mod Sets
pub mod InnerOutcome
