-- The sum, place by place; and which sets have more keys than a u64 holds.
use Prim.Native.Nat.{ℕ, zero, suc, ◌+◌, ◌-◌, ◌≤◌, ◌<◌}
use native.Mathlib.Omega.{arith}
use native.Mathlib.Decide.{dec_lt}
use mathlib.Core.Path.{◌≡◌, refl, sym, ◌∙◌}
use mathlib.Core.List.{List, [], ◌∷◌}
use borrow.Author.Tests.{lt-ltb, le-ltb}
use lib.ListN.{length, get_or, take, replicate}
use lib.IntN.{ℤ, pos}
use mir.Syntax.{w64}
use mir.Val.{of_z}
use Rattle.span.specs.Span.{Span, span, Ordered, Upto}
use Rattle.span.specs.Operations.{span_total}
use Rattle.span.proofs.Walks.{Spaced, spaced_ordered}
use Rattle.key.specs.Rank.{rank, keys}
use Rattle.key.specs.Range.{Kind, half_open}
use Rattle.key.proofs.Laws.{rank_below}
use Rattle.outcomes.specs.Stored.{spans}
use Rattle.outcomes.specs.declared.Stored.{Stored}
use Rattle.outcomes.specs.Sets.{SoundSet, total_is, total_sound}
use Rattle.key.specs.Range.{kind_of}
use Rattle.key.specs.declared.RangeKind.{RangeKind}
use Rattle.two_sets.specs.InnerKind.{wide}
use Rattle.range_list.specs.InnerColumns.{column_rows}
use Rattle.two_sets.specs.InnerSides.{Side, rows, rows_from}
use Rattle.two_sets.proofs.Kinded.{past_is}
use Rattle.two_sets.proofs.Columns.{spaced_rows, spaced_rest, rest_more, rest_none, rest_all}
use Rattle.two_sets.proofs.Doors.{rows_are}
use Rattle.set_total.specs.InnerSum.{rows_total}
use Rattle.std.specs.Prelude.{Ok, Err}
use Rattle.answers.specs.declared.Refusal.TheVariants.{TotalOver}

-- from b on up to c a list has no more keys than there are
total_after : (b c : ℕ) (m : List Span) → Ordered b m → Upto c m → span_total m ≤ c - b
unfolding span_total
total_after b c [] o u = omega arith
total_after b c (x ∷ xs) o u = omega (arith, total_after x.hi c xs o.2 u.1)

upto_take : (c n : ℕ) (m : List Span) → Upto c m → Upto c (take n m)
upto_take c zero m u = tt
upto_take c (suc n) [] u = tt
upto_take c (suc n) (x ∷ xs) u = (u.0, upto_take c n xs u.1)

module _ (kind : Kind) (c : ℕ) (within : (e : ℤ) → kind.past e ≤ c) where
  upto_spans : (ss es : List ℤ) (vs : List ℕ) → Upto c (spans kind ss es vs)
  unfolding spans
  upto_spans [] es vs = tt
  upto_spans (s ∷ ss) [] vs = tt
  upto_spans (s ∷ ss) (e ∷ es) [] = tt
  upto_spans (s ∷ ss) (e ∷ es) (v ∷ vs) = (within e, upto_spans ss es vs)

  upto_rows : (ss es : List ℤ) (n : ℕ) → Upto c (column_rows kind ss es n)
  unfolding column_rows
  upto_rows ss es n = upto_take c n (spans kind ss es (replicate (length ss) 0)) (upto_spans ss es (replicate (length ss) 0))

-- one range more
total_more : (x : Span) (xs : List Span) → span_total (x ∷ xs) ≡ (x.hi - x.lo) + span_total xs
unfolding span_total
total_more x xs = refl

total_none : span_total [] ≡ 0
unfolding span_total
total_none = refl

-- a set whose first range is not of all keys has fewer
fewer : (c : ℕ) (x : Span) (xs : List Span) → Spaced 0 (x ∷ xs) → Upto c (x ∷ xs) → x.hi - x.lo < c → span_total (x ∷ xs) < c
fewer c x xs s u h = omega (arith, total_more x xs, total_after (suc x.hi) c xs (spaced_ordered (suc x.hi) xs s.3) u.1)

pub wide_one : (kind : RangeKind) → wide kind ≤ 1
wide_one RangeKind.HalfOpen = omega arith
wide_one RangeKind.Inclusive = omega arith

-- A HALF-OPEN SET never has too many
pub open_fits : {m : Stored} (kind : RangeKind) → wide kind ≡ 0 → Side (kind_of kind) m → rows_total kind m < keys
open_fits {m} RangeKind.Inclusive e s = absurd (omega arith)
open_fits {m} RangeKind.HalfOpen e s =
    omega (
      arith,
      total_after 0 (keys - 1) (rows half_open m) (spaced_ordered 0 (rows half_open m) (spaced_rows half_open s))
          (upto_rows half_open (keys - 1) (λ d. omega (arith, rank_below (of_z w64 d))) m.starts m.ends m.count),
    )

module _ (kind : RangeKind) {m : Stored} (side : Side (kind_of kind) m) where
  -- none is left
  pub sum_none : (k : ℕ) → m.count ≤ k → span_total (rows_from (kind_of kind) m k) ≡ 0
  sum_none k h = rw (rest_none (kind_of kind) side k h) total_none

  pub sum_all : span_total (rows_from (kind_of kind) m 0) ≡ rows_total kind m
  sum_all = rw (rest_all (kind_of kind) side)

  pub empty_fits : m.count ≡ 0 → keys ≤ rows_total kind m → ⊥
  empty_fits e h = omega (arith, sum_none 0 (omega arith), sum_all, h)

  module _ (k : ℕ) {s e : ℕ} (h : k < m.count) (s-is : s ≡ rank (get_or m.starts k (pos 0))) (e-is : e ≡ rank (get_or m.ends k (pos 0))) where
    -- A RANGE has a key, and its length is the difference of the ranks, and one if its end is in it
    pub length_at : s ≤ e
    length_at = let p = (rw (rest_more kind side k h s-is e-is) at (spaced_rest (kind_of kind) side k)).1 in omega (arith, p, wide_one kind)

    pub sum_more : span_total (rows_from (kind_of kind) m k) ≡ (e - s + wide kind) + span_total (rows_from (kind_of kind) m (k + 1))
    sum_more = let x = rest_more kind side k h s-is e-is in rw x (omega (arith, total_more (span s (wide kind + e) 0) (rows_from (kind_of kind) m (k + 1)), length_at))

  -- as the sum adds it
  pub sum_step : {length width : ℕ} (k : ℕ) → k < m.count → length ≡ rank (get_or m.ends k (pos 0)) - rank (get_or m.starts k (pos 0)) → width ≡ wide kind
      → span_total (rows_from (kind_of kind) m k) ≡ (length + width) + span_total (rows_from (kind_of kind) m (k + 1))
  sum_step k h p q = rw (p, q) (sum_more k h refl refl)

  module _ {s e : ℕ} (h : 0 < m.count) (s-is : s ≡ rank (get_or m.starts 0 (pos 0))) (e-is : e ≡ rank (get_or m.ends 0 (pos 0))) where
    -- the first range is of all keys
    pub too_many_keys : keys ≤ e - s + wide kind → keys ≤ rows_total kind m
    too_many_keys f = omega (arith, sum_all, sum_more 0 h s-is e-is)

    -- it is not
    pub not_many : e - s + wide kind < keys → keys ≤ rows_total kind m → ⊥
    not_many f g =
        let x = sym (rest_all (kind_of kind) side) ∙ rest_more kind side 0 h s-is e-is in
        let sp = rw x at (spaced_rows (kind_of kind) side) in
        let u = rw x at (upto_rows (kind_of kind) keys (λ d. omega (arith, past_is kind d, wide_one kind, rank_below (of_z w64 d))) m.starts m.ends m.count) in
        let le = length_at 0 h s-is e-is in
        let o = rw x at g in
        omega (arith, fewer keys (span s (wide kind + e) 0) (rows_from (kind_of kind) m 1) sp u (omega arith), o)

pub below : {a b : ℕ} → (b ≤ a → ⊥) → a < b
below {a} {b} h = elim (dec_lt a b) [ yes p ↦ p | no p ↦ absurd (h (omega arith)) ]

-- THE ANSWERS
module _ (kind : RangeKind) {m : Stored} (set : SoundSet (kind_of kind) m) where
  pub answers_over : keys ≤ rows_total kind m → Err TotalOver ≡ total_sound (kind_of kind) m
  unfolding total_sound total_is
  answers_over h = let g = rw (rows_are (kind_of kind) set) at h in rw (le-ltb _ keys g)

  pub answers_total : {n : ℕ} → rows_total kind m < keys → n ≡ rows_total kind m → Ok n ≡ total_sound (kind_of kind) m
  unfolding total_sound total_is
  answers_total {n} h e = let g = rw (rows_are (kind_of kind) set) at e in rw (← g, lt-ltb n keys (omega arith))
