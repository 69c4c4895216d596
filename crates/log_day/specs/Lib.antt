-- What a reader must believe of log days. InnerZones is of the functions that find a day.
pub mod Days
pub mod InnerZones
pub mod Promises
