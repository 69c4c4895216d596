-- What the parts of the writer and of the reader are given and leave. What the two promise is `writing` and `reading`, of the crate `byte_form`.
pub mod InnerWrite
pub mod InnerRead
