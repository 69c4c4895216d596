-- A cursor in the bytes of a query.
use Rattle.std.specs.Prelude.{ℕ, ◌≤◌, Bool, false, ◌&&◌, List, [], ◌∷◌, leb, length}
use Rattle.query_text.specs.Grammar.{open_limit}
use Rattle.query_text.specs.declared.cursor.Cursor.{Cursor}

-- a cursor by its two fields
abbrev pub cursor : ℕ → ℕ → Cursor
cursor at n = record { at = at; marks = n }

-- is the byte a digit
abbrev pub is_digit : ℕ → Bool
is_digit b = leb 48 b && leb b 57

-- does a digit come next
abbrev pub starts_digit : List ℕ → Bool
starts_digit [] = false
starts_digit (b ∷ bs) = is_digit b

-- a cursor that stands in the bytes, with no more marks open than may be
pub record Placed (bytes : List ℕ) (c : Cursor) : Type 0 where
  pub inside : c.at ≤ length bytes
  pub few : c.marks ≤ open_limit
