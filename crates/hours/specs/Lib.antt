-- What a reader must believe of hours: Hours (the double nearest some seconds as hours).
pub mod Hours
