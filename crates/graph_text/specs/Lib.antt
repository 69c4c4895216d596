-- What a reader must believe of a day's grid as text: Grid (what each quarter of an hour shows), GraphText. InnerRoom is of its functions.
pub mod Grid
pub mod GraphText
pub mod InnerRoom
