-- Cutting: the parts of a text, one after the other. Lines: one line and the next, as a loop does them. Run: a text of edits makes what these make.
pub mod Cutting
pub mod Lines
pub mod Run
