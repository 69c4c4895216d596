-- What a reader must believe of the places of a map: InnerCheck (a live place, the unused places, one by one),
-- InnerSearch (the first place that reaches a key, the first that lies past a range).
-- What the check decides as a whole is `well_formed`, of the crate `outcomes`.
pub mod InnerCheck
pub mod InnerSearch
