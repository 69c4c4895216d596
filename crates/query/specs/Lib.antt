-- What a reader must believe of queries of two maps: the result (Result), and what is answered (Answers).
-- What functions only say to each other: InnerColumns, InnerSeen, InnerWalk, InnerWritten.
pub mod Result
pub mod Answers
pub mod InnerColumns
pub mod InnerSeen
pub mod InnerWalk
pub mod InnerWritten
