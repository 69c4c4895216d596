-- How many bytes the lines take at most, and what the functions that put them are given.
use Rattle.std.specs.Prelude.{ℕ, ◌*◌, ◌≤◌, List, length, ℤ}

-- two numbers and two dots; the value and what stands around it; the newline
abbrev pub range_room : ℕ
range_room = 42

abbrev pub range_line_room : ℕ
range_line_room = 65

abbrev pub result_line_room : ℕ
result_line_room = 43

-- the first n places are there in two lists, and so is the room for their lines
pub record ResultsRoom (n : ℕ) (ss es : List ℤ) (out : List ℕ) : Type 0 where
  pub starts : n ≤ length ss
  pub ends : n ≤ length es
  pub bytes : result_line_room * n ≤ length out
