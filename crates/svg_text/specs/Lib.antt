-- What a reader must believe of a day's grid as a picture: SvgText. InnerRoom is of its functions.
pub mod SvgText
pub mod InnerRoom
