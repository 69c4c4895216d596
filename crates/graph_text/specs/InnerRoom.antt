-- How many bytes the parts of a grid take at most, and what its functions are given.
use Rattle.std.specs.Prelude.{ℕ, ◌+◌, ◌*◌, ◌≤◌, ◌<◌, ◌≡◌, false, ℤ}
use Rattle.key.specs.Rank.{rank, keys}
use Rattle.key.specs.Range.{half_open}
use Rattle.outcomes.specs.Stored.{Sound, ranges}
use Rattle.outcomes.specs.declared.Stored.{Stored}
use Rattle.duty.specs.Duty.{strange}

-- the most quarters and hours of a day
abbrev pub most_quarters : ℕ
most_quarters = 100

abbrev pub most_hours : ℕ
most_hours = 25

-- a line: a name, the quarters, a total
abbrev pub graph_line_room : ℕ
graph_line_room = 150

-- all seven lines
abbrev pub graph_room : ℕ
graph_room = 1050

-- a well-formed map, and n quarters from s on in which no strange status is
pub record Quarters (m : Stored) (s : ℤ) (n : ℕ) : Type 0 where
  pub sound : Sound half_open m
  pub few : n ≤ most_quarters
  pub upto : rank s + 900 * n < keys
  pub calm : strange (rank s) (rank s + 900 * n) (ranges half_open m) ≡ false

-- one quarter of them
pub record Quarter (m : Stored) (s : ℤ) (q : ℕ) : Type 0 where
  pub sound : Sound half_open m
  pub upto : rank s + 900 * (q + 1) < keys
  pub calm : strange (rank s + 900 * q) (rank s + 900 * (q + 1)) (ranges half_open m) ≡ false
