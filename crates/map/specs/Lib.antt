-- What a reader must believe of the half-open map: how a struct in memory is a map. What each function answers is in `outcomes`.
pub mod Map
pub mod Promises
