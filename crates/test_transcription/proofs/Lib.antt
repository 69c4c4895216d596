-- The table of rangemap's answers is what the transcription computes: Computes has what is opened for that, Table the answers, printed by rust/compare.
pub mod Computes
pub mod Table
