-- Steps: what each shape of promise says of one call. Histories: what calls leave, law and instances. Bulk: a bulk insert is so many single inserts.
-- Days: the hours add up, and days meet. DayKept: what changes nothing in a day leaves its report. Bytes: both round trips.
-- Events: calls are events of `one_map`; what calls leave is read back. Refused, ListsKept: on any number but 0 all else is 0 or as it was.
-- Orders: the order of refusals of a query and of a report. WrongAnswers: functions that meet no promise.
-- AsRust, HistoriesAsRust: equal to the Rust, of the promises. Formed: what a yes of `well_formed` gives.
pub mod Steps
pub mod Histories
pub mod Bulk
pub mod Days
pub mod DayKept
pub mod Bytes
pub mod Events
pub mod Refused
pub mod ListsKept
pub mod Orders
pub mod WrongAnswers
pub mod AsRust
pub mod HistoriesAsRust
pub mod Formed
