-- What the functions that fill numbers in say to each other.
use Rattle.std.specs.Prelude.{ℕ, ◌+◌, ◌*◌, ◌≤◌, List, [], ◌∷◌, length}
use Rattle.text.specs.Text.{Adds}
use Rattle.decimal.specs.Decimal.{longest_number}
use Rattle.filling.specs.Filling.{piece_of, left_by}

-- the numbers that are left behind a text
unfoldable pub left_after : List ℕ → List ℕ → List ℕ
left_after [] ns = ns
left_after (c ∷ t) ns = left_after t (left_by c ns)

-- what a byte becomes before the numbers ns is put into lent bytes, and there is room for the numbers behind it
pub record Piece (c : ℕ) (ns out : List ℕ) (at : ℕ) (out₁ : List ℕ) (r : ℕ) : Type 0 where
  pub adds : Adds (piece_of c ns) out at out₁ r
  pub room : r + longest_number * length (left_by c ns) ≤ at + 1 + longest_number * length ns
