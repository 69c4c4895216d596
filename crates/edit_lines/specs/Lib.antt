-- What a reader must believe of the lines of `make`: Parts (the lines of a text, the words of a line), Making (the edit of a line, and what a text makes).
pub mod Parts
pub mod Making
pub mod InnerStep
