-- What the walks over two sets read and write. What the doors promise is `intersected` and `joining`, of the crate `outcomes`.
pub mod InnerKind
pub mod InnerSides
pub mod InnerLists
