-- Doors: what the doors answer, for each operation.
pub mod Doors
