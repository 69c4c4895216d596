-- Place: how one range of each map compares. Walk: what the loop knows.
-- Laws: the comparison is the same for both kinds of range, and a total order of well-formed maps.
pub mod Place
pub mod Walk
pub mod Laws
