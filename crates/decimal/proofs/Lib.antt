-- Digits: the text of a number, digit by digit. Signs: with a sign. Putting: digits put into lent bytes.
-- Reading: what is read is what was written, and nothing else is read. Steps: what the steps of the readers find. Cases: by computation.
pub mod Digits
pub mod Signs
pub mod Putting
pub mod Reading
pub mod Steps
pub mod Cases
