-- Kinded (the kind, in what the code answers and stores), Columns (a side, place by place), Writing (the output, place by place), Doors (the lent sets).
pub mod Kinded
pub mod Columns
pub mod Writing
pub mod Doors
