-- What a reader must believe of texts that are written out: Filling. InnerFill is of the loop that fills numbers in.
pub mod Filling
pub mod InnerFill
