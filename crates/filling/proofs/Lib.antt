-- Laws (texts that are put one after another), Fills (the steps of the loop that fills numbers in).
pub mod Laws
pub mod Fills
