-- InnerFound (what the walk finds from two places on, and a step of it), InnerAhead (a step that reads ahead).
pub mod InnerFound
pub mod InnerAhead
