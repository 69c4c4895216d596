-- Digits: the digits of a text, one after the other.
pub mod Digits
