-- Cases: by cases on a test, and on what is read. Steps: enough steps are enough, so each level is read from the level below. Grammar: the reader is the grammar.
-- Unambiguous: what the reader takes is what the grammar spells, and one query for any bytes. Cases01: document 01's cases. Meaning: the class is enough.
-- Alike: queries that are true of the same held values. Words, Tables: bits and tables. Bytes, Parts, Atoms: what the reader's functions find.
-- Unique: one answer.
pub mod Cases
pub mod Steps
pub mod Grammar
pub mod Unambiguous
pub mod Cases01
pub mod Meaning
pub mod Alike
pub mod Words
pub mod Tables
pub mod Bytes
pub mod Parts
pub mod Atoms
pub mod Unique
