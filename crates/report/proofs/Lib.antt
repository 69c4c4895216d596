-- The laws of a day's report: Returns (what serves the functions' proofs), Laws (what a report says), Outside (an edit outside the day), Cases (document 01's).
pub mod Returns
pub mod Laws
pub mod Outside
pub mod Cases
