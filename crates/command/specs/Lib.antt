-- What a reader must believe of the program's words: Words (which command the words of a command line are).
pub mod Words
