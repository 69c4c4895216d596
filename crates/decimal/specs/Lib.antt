-- What a reader must believe of decimal text: Decimal (the text of a number), Reading (the number that a text says).
pub mod Decimal
pub mod Reading
