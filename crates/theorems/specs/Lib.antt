-- What the theorems over the promises say: Calls (calls one after the other, and the last value that they gave a key), Structs (which promise each call of
-- the four structs meets), Inputs (what a caller can give), Shortcuts (that no shortcut meets a promise), Rust (what is equal to the Rust).
pub mod Calls
pub mod Structs
pub mod Inputs
pub mod Shortcuts
pub mod Rust
