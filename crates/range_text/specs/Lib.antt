-- What a reader must believe of ranges as text: RangeText. InnerRoom is of its functions.
pub mod RangeText
pub mod InnerRoom
