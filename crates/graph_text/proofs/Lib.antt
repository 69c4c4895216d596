-- Quarters (what is known of a quarter), Hours (in their columns), Marks (what a mark says), Days (a day that was reported), Cases (by computation).
pub mod Quarters
pub mod Hours
pub mod Marks
pub mod Days
pub mod Cases
