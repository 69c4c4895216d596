-- Four (a small map of four places, and what is done to it).
pub mod Four
