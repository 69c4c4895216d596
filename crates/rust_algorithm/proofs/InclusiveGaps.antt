-- What the inclusive map's gaps gives is `uncovered`.
use Prim.Native.Nat.{ℕ, zero, suc, ◌-◌, ◌≤◌, ◌<◌}
use native.Mathlib.Omega.{arith}
use native.Mathlib.Decide.{dec_lt}
use mathlib.Core.Path.{◌≡◌, refl, ap, ◌∙◌}
use mathlib.Core.List.{List, [], ◌∷◌}
use mathlib.Core.Bool.{Bool, true, false, cond}
use mathlib.Core.Option.{Option, some, none}
use lib.Dec.{ltb, leb}
use lib.ListN.{length}
use borrow.Author.Tests.{lt-ltb, le-ltb, le-leb, lt-leb}
use Rattle.span.specs.Span.{Span, span, Ordered, Upto, keep}
use Rattle.span.specs.Operations.{uncovered}
use Rattle.span.proofs.Tests.{lt_cases}
use Rattle.span.proofs.Holding.{ordered_from}
use Rattle.rust_algorithm.specs.Btree.{filtered}
use Rattle.rust_algorithm.specs.Map.{ending_past, GapStep, gap_step, given_first}
use Rattle.rust_algorithm.specs.InclusiveMap.{StepFns, ending_from}
use Rattle.rust_algorithm.specs.InclusiveMap.{inclusive_tail_gap, inclusive_next_gap, inclusive_collect_gaps, inclusive_gaps}
use Rattle.rust_algorithm.proofs.Gaps.{free, free_is, free_empty, ordered_past, past_past}
use Rattle.rust_algorithm.proofs.InclusiveEdits.{Sound, sound, filtered_same, leb_ltb}

-- where the next gap may start
abbrev from : Bool → ℕ → ℕ
from true c = suc c
from false c = c

-- the entries that end at s or later
module _ (top : ℕ) where
  pub ending_same : (s : ℕ) (m : List Span) → Sound top m → ending_from s m ≡ ending_past s m
  unfolding ending_from ending_past
  ending_same s m h = filtered_same top (λ x. ltb s x.hi) (λ x. leb s (x.hi - 1)) m (λ x f t. leb_ltb s (x.hi - 1) x.hi (omega arith)) h

  upto_past : (s : ℕ) (m : List Span) → Upto top m → Upto top (ending_past s m)
  unfolding ending_past filtered
  upto_past s [] u = tt
  upto_past s (x ∷ xs) u = let ih = upto_past s xs u.1 in lt_cases s x.hi (Upto top) (λ p. (u.0, ih)) (λ p. ih)

module _ (add-one sub-one : ℕ → Option ℕ) (greatest : ℕ) (steps : StepFns add-one sub-one greatest) where
  abbrev Near : ℕ → List Span → Type 0
  Near f [] = Unit {0}
  Near f (x ∷ xs) = f ≤ greatest

  all_gaps : ℕ → ℕ → Bool → ℕ → List Span → Option (List Span)
  all_gaps n e plus c xs = inclusive_collect_gaps add-one sub-one n e plus c xs

  one_gap : ℕ → Bool → ℕ → List Span → Option GapStep
  one_gap e plus c xs = inclusive_next_gap add-one sub-one e plus c xs

  last_gap : ℕ → Bool → ℕ → List Span → Option GapStep
  last_gap e plus c xs = inclusive_tail_gap add-one sub-one e plus c xs

  turn : (n e c : ℕ) (plus : Bool) (xs : List Span) (s : GapStep) → one_gap e plus c xs ≡ some s
      → all_gaps (suc n) e plus c xs ≡ given_first s.gap (all_gaps n e true s.candidate s.iter)
  unfolding all_gaps one_gap inclusive_collect_gaps
  turn n e c plus xs s h = rw h

  same_turn : (n e c d : ℕ) (plus : Bool) (xs ys : List Span) → one_gap e plus c xs ≡ one_gap e true d ys
      → all_gaps (suc n) e plus c xs ≡ all_gaps (suc n) e true d ys
  unfolding all_gaps one_gap inclusive_collect_gaps
  same_turn n e c d plus xs ys h = rw h

  -- what Gaps::next does
  module _ (e : ℕ) (top : e ≤ greatest) where
    tail_yes : (plus : Bool) (c : ℕ) (xs : List Span) → from plus c ≤ e → last_gap e plus c xs ≡ some (gap_step (some (span (from plus c) (suc e) 0)) e xs)
    unfolding last_gap inclusive_tail_gap
    tail_yes true c xs h = rw (lt-ltb c e h, steps.adds c (omega arith))
    tail_yes false c xs h = rw (le-leb c e h)

    tail_no : (plus : Bool) (c : ℕ) (xs : List Span) → e < from plus c → last_gap e plus c xs ≡ some (gap_step none e xs)
    unfolding last_gap inclusive_tail_gap
    tail_no true c xs h = rw (le-ltb c e (omega arith))
    tail_no false c xs h = rw (lt-leb c e h)

    next_none : (plus : Bool) (c : ℕ) → one_gap e plus c [] ≡ last_gap e plus c []
    unfolding one_gap last_gap inclusive_next_gap
    next_none plus c = refl

    next_past : (plus : Bool) (c : ℕ) (x : Span) (xs : List Span) → e < x.lo → one_gap e plus c (x ∷ xs) ≡ last_gap e plus c xs
    unfolding one_gap last_gap inclusive_next_gap
    next_past plus c x xs h = rw (lt-ltb e x.lo h)

    start : (plus : Bool) (c : ℕ) → from plus c ≤ greatest → cond plus (add-one c) (some c) ≡ some (from plus c)
    start true c h = steps.adds c h
    start false c h = refl

    next_yes : (plus : Bool) (c : ℕ) (x : Span) (xs : List Span) → x.lo ≤ e → from plus c < x.lo
        → one_gap e plus c (x ∷ xs) ≡ some (gap_step (some (span (from plus c) x.lo 0)) (x.hi - 1) xs)
    unfolding one_gap inclusive_next_gap
    next_yes plus c x xs h i =
        let whole : suc (x.lo - 1) ≡ x.lo = omega arith in
        rw (le-ltb e x.lo h, start plus c (omega arith), lt-ltb (from plus c) x.lo i, steps.subs x.lo (omega arith), whole)

    next_no : (plus : Bool) (c : ℕ) (x : Span) (xs : List Span) → x.lo ≤ e → from plus c ≤ greatest → x.lo ≤ from plus c
        → one_gap e plus c (x ∷ xs) ≡ one_gap e true (x.hi - 1) xs
    unfolding one_gap inclusive_next_gap
    next_no plus c x xs h i j = rw (le-ltb e x.lo h, start plus c i, le-ltb (from plus c) x.lo j)

    -- at the end of the outer range it has ended
    over : (n : ℕ) (xs : List Span) → Ordered (suc e) xs → all_gaps (suc n) e true e xs ≡ some []
    over n [] o = turn n e e true [] _ (next_none true e ∙ tail_no true e [] (omega arith))
    over n (x ∷ xs) o = turn n e e true (x ∷ xs) _ (next_past true e x xs o.0 ∙ tail_no true e xs (omega arith))

    ends : (n c : ℕ) (plus : Bool) (xs rest : List Span) → one_gap e plus c xs ≡ last_gap e plus c rest → Ordered (suc e) rest
        → all_gaps (suc (suc n)) e plus c xs ≡ some (keep (span (from plus c) (suc e) 0) [])
    unfolding keep
    ends n c plus xs rest h o = elim (dec_lt e (from plus c)) [
      | yes p ↦ turn (suc n) e c plus xs _ (h ∙ tail_no plus c rest p) ∙ rw (le-ltb (from plus c) (suc e) (omega arith))
      | no p ↦ turn (suc n) e c plus xs _ (h ∙ tail_yes plus c rest (omega arith)) ∙ rw (over n rest o, lt-ltb (from plus c) (suc e) (omega arith))
    ]

    -- where an entry is still to come, the next gap may start at a key
    near_ordered : (f : ℕ) (xs : List Span) → Ordered f xs → Upto (suc greatest) xs → Near f xs
    near_ordered f [] o u = tt
    near_ordered f (x ∷ xs) o u = omega arith

    collects : (n c b : ℕ) (plus : Bool) (xs : List Span) → Near (from plus c) xs → Ordered b xs → Upto (suc greatest) xs → suc (length xs) < n
        → all_gaps n e plus c xs ≡ some (free (suc e) (from plus c) xs)
    unfolding free keep
    collects zero c b plus xs g o u h = absurd (omega arith)
    collects (suc zero) c b plus xs g o u h = absurd (omega arith)
    collects (suc (suc n)) c b plus [] g o u h = ends n c plus [] [] (next_none plus c) tt
    collects (suc (suc n)) c b plus (x ∷ xs) g o u h =
        let whole : suc (x.hi - 1) ≡ x.hi = omega arith in
        let near : Near (suc (x.hi - 1)) xs = near_ordered (suc (x.hi - 1)) xs (ordered_from xs (omega arith) o.2) u.1 in
        elim (dec_lt e x.lo) [
          | yes p ↦ rw (le-leb (suc e) x.lo p) (ends n c plus (x ∷ xs) xs (next_past plus c x xs p) (ordered_from xs (omega arith) o.2))
          | no p ↦ elim (dec_lt (from plus c) x.lo) [
            | yes q ↦ turn (suc n) e c plus (x ∷ xs) _ (next_yes plus c x xs (omega arith) q) ∙ rw (
              collects (suc n) (x.hi - 1) x.hi true xs near o.2 u.1 (omega arith),
              whole,
              lt-leb (suc e) x.lo (omega arith),
              lt-ltb (from plus c) x.lo q,
            )
            | no q ↦ rw (lt-leb (suc e) x.lo (omega arith), le-ltb (from plus c) x.lo (omega arith))
                (same_turn (suc n) e c (x.hi - 1) plus (x ∷ xs) xs (next_no plus c x xs (omega arith) g (omega arith))
                ∙ collects (suc (suc n)) (x.hi - 1) x.hi true xs near o.2 u.1 (omega arith) ∙ rw whole)
          ]
        ]

  near_any : (f : ℕ) (xs : List Span) → f ≤ greatest → Near f xs
  near_any f [] h = tt
  near_any f (x ∷ xs) h = h

  -- all that the iterator gives
  collected : (lo last : ℕ) (m : List Span) → lo ≤ greatest → last ≤ greatest → Ordered 0 m → Upto (suc greatest) m
      → inclusive_gaps add-one sub-one lo last m ≡ some (free (suc last) lo (ending_past lo m))
  unfolding inclusive_gaps all_gaps
  collected lo last m h i o u =
      let over = ending_past lo m in
      rw (ending_same (suc greatest) lo m (sound (suc greatest) 0 m o u))
      (collects last i (suc (suc (length over))) lo 0 false over (near_any lo over h) (ordered_past lo 0 m o) (upto_past (suc greatest) lo m u) (omega arith))

  -- GAPS: the iterator ends, and what it gives is what `uncovered` says
  pub inclusive_gaps_is : (lo last : ℕ) (m : List Span) → lo ≤ last → last ≤ greatest → Ordered 0 m → Upto (suc greatest) m
      → inclusive_gaps add-one sub-one lo last m ≡ some (uncovered lo (suc last) m)
  inclusive_gaps_is lo last m h i o u = collected lo last m (omega arith) i o u ∙ ap some (free_is lo (suc last) m (omega arith) o)

  -- of a reversed range it gives nothing
  pub inclusive_gaps_empty : (lo last : ℕ) (m : List Span) → last < lo → lo ≤ greatest → Ordered 0 m → Upto (suc greatest) m
      → inclusive_gaps add-one sub-one lo last m ≡ some []
  inclusive_gaps_empty lo last m h i o u =
      collected lo last m i (omega arith) o u ∙ ap some (free_empty lo (suc last) 0 (ending_past lo m) h (ordered_past lo 0 m o) (past_past lo m))
