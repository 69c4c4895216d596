-- Formed: a well-formed map, as proofs use it. Storing: a list of ranges and the map that stores it. Edits: what an edit leaves, and histories.
-- Went: how an edit went, and its number. Bulk: bulk insert, entry by entry. Equal: equality by comparison. Cases: document 01. Unique: one outcome for each promise.
-- Sets, SetCases: what intersection, union and total mean, and document 01 of sets.
pub mod Formed
pub mod Storing
pub mod Edits
pub mod Equal
pub mod Went
pub mod Bulk
pub mod Cases
pub mod Unique
pub mod Sets
pub mod SetCases
