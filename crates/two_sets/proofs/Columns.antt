-- One of the two sets, place by place.
use Prim.Native.Nat.{ℕ, zero, suc, ◌+◌, ◌≤◌, ◌<◌}
use native.Mathlib.Omega.{arith}
use mathlib.Core.Path.{◌≡◌, refl, ◌∙◌}
use mathlib.Core.Bool.{Bool, true, false, not}
use mathlib.Core.List.{List, [], ◌∷◌}
use lib.ListN.{length, get_or, drop, replicate}
use lib.IntN.{ℤ, pos}
use mir.Val.{bool_byte}
use Rattle.span.specs.Span.{Span, span}
use Rattle.span.specs.Operations.{Plain}
use Rattle.span.proofs.Walks.{Spaced, spaced_from, tidy_spaced}
use Rattle.key.specs.Rank.{rank}
use Rattle.key.specs.Range.{Kind, kind_of}
use Rattle.key.specs.declared.RangeKind.{RangeKind}
use Rattle.outcomes.specs.Stored.{spans}
use Rattle.outcomes.specs.declared.Stored.{Stored}
use Rattle.outcomes.proofs.Sets.{plain_take}
use Rattle.two_sets.specs.InnerKind.{wide}
use Rattle.range_list.specs.InnerColumns.{column_rows, rest}
use Rattle.range_list.proofs.Columns as columns
use Rattle.two_sets.specs.InnerSides.{Side, rows, rows_from}
use Rattle.two_sets.proofs.Kinded.{past_is}

-- a walk over two sides goes one place on in one of the two, and in no other
pub one_goes : (left : Bool) → (bool_byte left ≤ 1) × (bool_byte left + bool_byte (not left) ≡ 1)
one_goes true = (omega arith, refl)
one_goes false = (omega arith, refl)

plain_bare : (kind : Kind) (ss es : List ℤ) → Plain (spans kind ss es (replicate (length ss) 0))
unfolding spans
plain_bare kind [] es = tt
plain_bare kind (s ∷ ss) [] = tt
plain_bare kind (s ∷ ss) (e ∷ es) = (refl, plain_bare kind ss es)

spaced_drop : (b k : ℕ) (xs : List Span) → Spaced b xs → Spaced b (drop k xs)
spaced_drop b zero xs s = s
spaced_drop b (suc k) [] s = tt
spaced_drop b (suc k) (x ∷ xs) s = spaced_from {b = suc x.hi} (drop k xs) (omega arith) (spaced_drop (suc x.hi) k xs s.3)

module _ (kind : Kind) {m : Stored} (side : Side kind m) where
  pub length_rows : length (rows kind m) ≡ m.count
  length_rows = columns.length_rows kind m.starts m.ends m.count side.held side.ends_as

  -- it is a set
  pub spaced_rows : Spaced 0 (rows kind m)
  unfolding column_rows
  spaced_rows = tidy_spaced 0 (rows kind m) side.tidy.ordered side.tidy.separate (plain_take m.count _ (plain_bare kind m.starts m.ends))

  pub spaced_rest : (k : ℕ) → Spaced 0 (rows_from kind m k)
  unfolding rest
  spaced_rest k = spaced_drop 0 k (rows kind m) spaced_rows

  pub rest_all : rows_from kind m 0 ≡ rows kind m
  rest_all = columns.rest_all kind m.starts m.ends m.count side.held side.ends_as

  pub rest_none : (k : ℕ) → m.count ≤ k → rows_from kind m k ≡ []
  rest_none = columns.rest_none kind m.starts m.ends m.count side.held side.ends_as

-- the range at a place, by the ranks of its keys
pub rest_more : (kind : RangeKind) {m : Stored} → Side (kind_of kind) m → (k : ℕ) {s e : ℕ} → k < m.count
    → s ≡ rank (get_or m.starts k (pos 0)) → e ≡ rank (get_or m.ends k (pos 0))
    → rows_from (kind_of kind) m k ≡ span s (wide kind + e) 0 ∷ rows_from (kind_of kind) m (k + 1)
rest_more kind {m = m} side k h p q =
    columns.rest_more (kind_of kind) m.starts m.ends m.count side.held side.ends_as k h ∙ rw (past_is kind (get_or m.ends k (pos 0)), p, q)
