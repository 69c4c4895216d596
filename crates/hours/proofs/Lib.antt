-- The laws of hours: Quotient (the division gives them), Near (they are the nearest double, and exact where 225 divides the seconds), Cases (by computation).
pub mod Quotient
pub mod Near
pub mod Cases
