-- WINDOWS THAT MEET: the results over them, joined, are the result over both, and so their totals add up.
use Prim.Native.Nat.{ℕ, ◌+◌, ◌<◌}
use native.Mathlib.Omega.{arith}
use mathlib.Core.Path.{◌≡◌, refl}
use mathlib.Core.Bool.{Bool, true, false, ◌&&◌}
use mathlib.Core.List.{List, []}
use mathlib.Core.Option.{none}
use Rattle.span.specs.Span.{Span, inside, at, Tidy, or_else}
use Rattle.span.specs.Operations.{laid_over, span_total, tally}
use Rattle.span.proofs.Tests.{below, among, beyond, place, in_yes, in_no, in_same}
use Rattle.span.proofs.Laws.{reworded}
use Rattle.span.proofs.Sets.{over_means}
use Rattle.span.proofs.Total.{EndsBy, total_pairs, upto_more}
use Rattle.query_text.specs.Grammar.{Query}
use Rattle.query_text.specs.Meaning.{truth}
use Rattle.query.specs.Result.{result, is_true, marked}
use Rattle.query.proofs.Result.{result_means, result_only}
use Rattle.query.proofs.Hours.{ends_within}

-- an instant of the window is in the first part, or else in the second if it is in any
module _ (lo mid hi : ℕ) (left : lo < mid) (right : mid < hi) (k : ℕ) where
  pub by_part : (P : Bool → Bool → Bool → Type 0) → P true false true → ((w : Bool) → P false w w) → P (inside lo mid k) (inside mid hi k) (inside lo hi k)
  by_part P y n = elim (place lo mid k) [
    | below p ↦
        let s : inside lo hi k ≡ inside mid hi k = in_same (omega arith) (omega arith) in
        rw (in_no lo mid k (omega arith), s) (n (inside mid hi k))
    | among p q ↦ rw (in_yes lo mid k (omega arith), in_no mid hi k (omega arith), in_yes lo hi k (omega arith)) y
    | beyond p q ↦
        let s : inside lo hi k ≡ inside mid hi k = in_same (omega arith) (omega arith) in
        rw (in_no lo mid k (omega arith), s) (n (inside mid hi k))
  ]

-- a mark, and nothing beside it
first_mark : (t : Bool) → or_else (marked t) none ≡ marked t
first_mark true = refl
first_mark false = refl

module _ (lo mid hi : ℕ) (a b : List Span) (left : lo < mid) (right : mid < hi) (ta : Tidy 0 a) (tb : Tidy 0 b) (q : Query) where
  real : lo < hi
  real = omega arith

  -- the spans of the one and those of the other, joined where they touch
  pub windows_join : laid_over (result lo mid a b q) (result mid hi a b q) ≡ result lo hi a b q
  unfolding is_true
  windows_join =
      let x = result_means lo mid a b left ta tb q in
      let y = result_means mid hi a b right ta tb q in
      let two = over_means (result lo mid a b q) (result mid hi a b q) x.tidy.ordered y in
      result_only lo hi a b real ta tb q (laid_over (result lo mid a b q) (result mid hi a b q)) (reworded two (λ k.
      let t = truth q (at a k) (at b k) in
      let P : Bool → Bool → Bool → Type 0 = λ u v w. or_else (marked (u && t)) (marked (v && t)) ≡ marked (w && t) in
      rw (x.holds k) (by_part lo mid hi left right k P (first_mark t) (λ w. refl))))

  pub windows_add_up : span_total (result lo mid a b q) + span_total (result mid hi a b q) ≡ span_total (result lo hi a b q)
  unfolding is_true span_total at
  windows_add_up =
      let x = (result_means lo mid a b left ta tb q).holds in
      let y = (result_means mid hi a b right ta tb q).holds in
      let z = (result_means lo hi a b real ta tb q).holds in
      let sooner = ends_within lo mid a b left ta tb q in
      let in_first : EndsBy hi (result lo mid a b q) =
      record { ordered = sooner.ordered; upto = upto_more {b = mid} (result lo mid a b q) (omega arith) sooner.upto } in
      let nothing : EndsBy hi [] = record { ordered = tt; upto = tt } in
      let e = total_pairs in_first (ends_within mid hi a b right ta tb q) (ends_within lo hi a b real ta tb q) nothing (λ k.
      let t = truth q (at a k) (at b k) in
      let P : Bool → Bool → Bool → Type 0 = λ u v w. tally (marked (u && t)) + tally (marked (v && t)) ≡ tally (marked (w && t)) + tally none in
      rw (x k, y k, z k) (by_part lo mid hi left right k P (omega arith) (λ w. omega arith))) in
      omega arith
