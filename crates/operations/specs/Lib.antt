-- InnerOperation (what an operation finds, and what it answers). What the exported functions promise stands in the crate `outcomes`, Sets.
pub mod InnerOperation
