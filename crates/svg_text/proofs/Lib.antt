-- Cases (the lines of a picture, by computation).
pub mod Cases
