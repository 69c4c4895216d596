-- A small map, as a thin function lends it, and what is asked and made of it. Nothing in the ledger rests on these.
use Rattle.std.specs.Prelude.{ℕ, Bool, ◌&&◌, List, length, nat_le, eqb, ℤ}
use Rattle.thin.specs.declared.Small.{Small}

-- what a small map stores
pub record Four : Type 0 where
  pub count : ℕ
  pub starts : List ℤ
  pub values : List ℕ

abbrev pub four : ℕ → List ℤ → List ℕ → Four
four n ss vs = record { count = n; starts = ss; values = vs }

abbrev pub four_in : Small → Four
four_in m = four m.count m.starts m.values

-- the same with no range
unfoldable pub emptied : Four → Four
emptied m = four 0 m.starts m.values

-- has a list a place for each range of two of them
unfoldable pub roomy : Four → Four → List ℕ → Bool
roomy a b bytes = nat_le a.count (length bytes) && nat_le b.count (length bytes)

-- does a small map hold nothing
unfoldable pub bare : Small → Bool
bare m = eqb m.count 0
