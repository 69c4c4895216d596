-- What is asked of the transcription, and how its answers are told as numbers.
pub mod Asked
