-- The laws: Laws, Labels, Sets, Union, Total, Order, Fewest; document 01 in Cases. For proofs about code: Pieces, Local, Walks. Beneath: Tests, Holding.
pub mod Tests
pub mod Holding
pub mod Laws
pub mod Labels
pub mod Pieces
pub mod Local
pub mod Sets
pub mod Union
pub mod Total
pub mod Order
pub mod Fewest
pub mod Cases
pub mod Walks
