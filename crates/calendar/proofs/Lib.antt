-- Every (tests that antt computes at every number below a bound), Lengths (of months and years), Numbers (days counted: the next date's number is one more,
-- and there is one date for each number), Sundays (the first on or after a day, and where the two Sundays of a year lie).
pub mod Every
pub mod Lengths
pub mod Numbers
pub mod Sundays
