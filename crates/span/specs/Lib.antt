-- What a reader must believe of spans: Span (what a list holds, and edits), Labels (spans with other labels), Operations (what is asked of lists besides).
pub mod Span
pub mod Labels
pub mod Operations
