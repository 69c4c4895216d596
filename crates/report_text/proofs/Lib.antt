-- Columns (numbers and names in columns), Laws (what a report says), Clock (the clock tells its seconds),
-- Cases (document 01's November day as text).
pub mod Columns
pub mod Laws
pub mod Clock
pub mod Cases
