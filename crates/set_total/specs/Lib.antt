-- What the sum adds up. What the doors promise is `totalled`, of the crate `outcomes`.
pub mod InnerSum
