-- Pairs: the entries of two lists. Laws: a set stays a set.
pub mod Pairs
pub mod Laws
