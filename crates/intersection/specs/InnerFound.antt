-- What the walk finds from two places on, in two sets.
use Rattle.std.specs.Prelude.{ℕ, ◌+◌, ◌≤◌, min, max, ◌≡◌, Bool, List, ◌∷◌, ltb, get_or, ℤ, pos}
use Rattle.span.specs.Span.{Span, span}
use Rattle.span.specs.Operations.{common}
use Rattle.key.specs.Rank.{rank}
use Rattle.key.specs.Range.{kind_of}
use Rattle.key.specs.declared.RangeKind.{RangeKind}
use Rattle.outcomes.specs.declared.Stored.{Stored}
use Rattle.range_list.specs.InnerLists.{ListRoom}
use Rattle.two_sets.specs.InnerKind.{wide}
use Rattle.two_sets.specs.InnerSides.{Side, rows, rows_from}
use Rattle.two_sets.specs.InnerLists.{Going}
use Rattle.two_sets.specs.declared.Position.{Position}

-- what the two sets have in common
abbrev pub shared : RangeKind → Stored → Stored → List Span
shared kind a b = common (rows (kind_of kind) a) (rows (kind_of kind) b)

-- what they have in common from place i of the first and place j of the second on
abbrev pub shared_from : RangeKind → Stored → ℕ → Stored → ℕ → List Span
shared_from kind a i b j = common (rows_from (kind_of kind) a i) (rows_from (kind_of kind) b j)

-- the range that is open
abbrev pub open_span : RangeKind → ℤ → ℤ → Span
open_span kind s e = span (rank s) (wide kind + rank e) 0

-- what is still to be written where the walk is: the open range, and what the sets have in common from there on
abbrev pub open_shared : RangeKind → Stored → Stored → Position → List Span
open_shared kind a b r = open_span kind r.start r.end ∷ shared_from kind a r.i b r.j

-- the walk may go on from where it is: both places are in their sets, and the lent lists have room for what is still to be written
pub record Ready (kind : RangeKind) (a b : Stored) (r : Position) (os oe : List ℤ) : Type 0 where
  pub side_a : Side (kind_of kind) a
  pub side_b : Side (kind_of kind) b
  pub in_a : r.i ≤ a.count
  pub in_b : r.j ≤ b.count
  pub room : ListRoom r.at (open_shared kind a b r) os oe

-- it has gone on to another place: what was written on the way, and what is still to be
pub record Gone (kind : RangeKind) (a b : Stored) (r : Position) (os oe : List ℤ) (r₁ : Position) (os₁ oe₁ : List ℤ) : Type 0 where
  pub in_a : r₁.i ≤ a.count
  pub in_b : r₁.j ≤ b.count
  pub going : Going (kind_of kind) r.at os oe (open_shared kind a b r) r₁.at (open_shared kind a b r₁) os₁ oe₁

-- the rank of the key at a place of a column
abbrev pub key_rank : List ℤ → ℕ → ℕ
key_rank l i = rank (get_or l i (pos 0))

-- a step over two ranges, by the ranks s and t of their starts and e and f of their ends: from the greater start to the lesser end, if that has a key;
-- the range that ends first goes, and the second of two that end alike
pub record Stepped (kind : RangeKind) (s e t f : ℕ) (lo hi : ℤ) (found left : Bool) : Type 0 where
  pub start : rank lo ≡ max s t
  pub end : rank hi ≡ min e f
  pub met : found ≡ ltb (rank lo) (wide kind + rank hi)
  pub first : left ≡ ltb e f
