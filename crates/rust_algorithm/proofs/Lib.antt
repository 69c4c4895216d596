-- THE THEOREM is Equal: `half_open_equal`, `inclusive_equal_checked`, `inclusive_equal_wrapping`. It is stated in specs/Equal.
-- It stands on theorems of lists of spans, which Same puts together. Of the half-open map: Insert, Remove, History, Gaps. Of the inclusive one:
-- InclusiveEdits, InclusiveHistory, InclusiveGaps. Of both: Queries (get, contains, overlapping, overlaps, equality, order), Union, Intersection,
-- Collected (extend, | and &), Places (a map's places beside what the Rust gives).
-- Document 01's cases, by computation: Cases, InclusiveCases.
-- Beneath: Entries (the list that stands for the BTreeMap), Candidate (the query for the start), Held (what is held while the algorithm runs),
-- InsertLoop and RemoveLoop (the loops of insert and remove, of both kinds).
pub mod Entries
pub mod Candidate
pub mod Held
pub mod InsertLoop
pub mod Insert
pub mod RemoveLoop
pub mod Remove
pub mod History
pub mod Gaps
pub mod InclusiveEdits
pub mod InclusiveHistory
pub mod InclusiveGaps
pub mod Queries
pub mod Union
pub mod Intersection
pub mod Collected
pub mod Same
pub mod Places
pub mod Equal
pub mod Differences
pub mod DifferenceCases
pub mod Cases
pub mod InclusiveCases
