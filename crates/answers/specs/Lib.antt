-- What a reader must believe of answers: the table of document 01 (Answers), and why a call is refused (Refusals).
pub mod Answers
pub mod Refusals
