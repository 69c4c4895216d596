-- What a reader must believe of a day's report as text: Rows (the five rows of a day), Times (seconds as text), ReportText. InnerRoom is of its functions.
pub mod Rows
pub mod Times
pub mod ReportText
pub mod InnerRoom
