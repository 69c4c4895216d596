-- What a reader must believe of a query's bytes: which bytes are a query (Grammar), when it is true (Meaning), and how it is read (Reader).
-- The reader is there only because the answers are computed by it: a law says that it is the grammar (`is_read` and `read_is`, in proofs/Grammar).
-- What functions only say to each other: InnerClasses, InnerTable, InnerCursor, InnerReading.
pub mod Grammar
pub mod Meaning
pub mod Reader
pub mod InnerClasses
pub mod InnerTable
pub mod InnerCursor
pub mod InnerReading
