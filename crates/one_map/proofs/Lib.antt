-- Known: a well-formed map is known by what its lookup answers. OneMap: any well-formed map that holds what an edit, clear or read says is the one left.
-- OneList: the only lists of gaps, of an intersection and of a union; the total as a number of keys.
-- Refusals, SetRefusals: document 01's rules of refusals. Full: document 01's Full case, and a cut inside one of 512 ranges.
-- Histories, SetHistories: what events leave. Bulk: where a bulk insert stops. Values: a map's values are those that it was given.
-- Memory: what events leave is written and read back.
pub mod Known
pub mod OneMap
pub mod OneList
pub mod Refusals
pub mod SetRefusals
pub mod Full
pub mod Histories
pub mod Bulk
pub mod Values
pub mod Memory
pub mod SetHistories
