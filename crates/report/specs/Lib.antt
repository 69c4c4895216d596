-- What a reader must believe of a day's report: Report.
pub mod Report
