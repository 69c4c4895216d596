-- What a reader must believe of histories: Events (what can happen to a map, and the last value that a key was given), SetEvents (the same of a set).
pub mod Events
pub mod SetEvents
