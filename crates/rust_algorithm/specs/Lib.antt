-- What a reader must believe of rangemap 1.8.0, held beside its lines: Btree (what Rust's BTreeMap and its iterators do),
-- Map (map.rs), InclusiveMap (inclusive_map.rs), Operations (operations.rs, and what set.rs and inclusive_set.rs make of it).
-- Answers says what the ledger answers by what the Rust answers, and Equal is the statement: equal to the Rust on every input not refused.
pub mod Btree
pub mod Map
pub mod InclusiveMap
pub mod Operations
pub mod Answers
pub mod Equal
