-- What a reader must believe of the half-open set: how a struct in memory is a set. What each function answers is in `outcomes`.
pub mod Set
pub mod Promises
