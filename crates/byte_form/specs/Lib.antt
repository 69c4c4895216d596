-- What a reader must believe of the byte form: Bytes (numbers and one range as bytes), Layout (what one form differs in from another, and document 01's),
-- Form (the form of a map, and what the writer and the reader answer and leave).
pub mod Bytes
pub mod Layout
pub mod Form
