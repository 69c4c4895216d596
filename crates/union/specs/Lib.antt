-- InnerFound (what the walk finds from two places on, and the range that is taken next).
pub mod InnerFound
