-- Laws (a number with a sign, and one line more), Cases (document 01's three ranges as text).
pub mod Laws
pub mod Cases
