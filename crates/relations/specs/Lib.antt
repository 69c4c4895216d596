-- What a reader must believe of the relations of two ranges.
pub mod Relations
pub mod Promises
