-- What the functions of the program say to each other: InnerInput (bytes that were read, and the map of a form).
pub mod InnerInput
