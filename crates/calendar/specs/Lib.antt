-- What a reader must believe of the calendar.
pub mod Calendar
pub mod Years
