-- THE RESULT holds exactly the true instants of the window, in maximal spans, and no other list does.
use Prim.Native.Nat.{ℕ, ◌<◌}
use mathlib.Core.Path.{◌≡◌, refl}
use mathlib.Core.Bool.{Bool, true, false, ◌&&◌, ◌||◌, not}
use mathlib.Core.List.{List, [], ◌∷◌}
use mathlib.Core.Option.{Option, some, none}
use native.Mathlib.Omega.{arith}
use Rattle.span.specs.Span.{Span, span, inside, at, Ordered, Tidy, Means, or_else}
use Rattle.span.specs.Operations.{common, chosen, is, when, unless}
use Rattle.span.proofs.Laws.{only, reworded}
use Rattle.span.proofs.Sets.{gaps_means, common_means, over_means, chosen_means}
use Rattle.query_text.specs.Grammar.{Query, first, second, no, both, either}
use Rattle.query_text.specs.Meaning.{holds_value, truth}
use Rattle.query.specs.Result.{result, is_true, marked}

-- what the operations of spans are of marks
is_mark : (d : ℕ) (x : Option ℕ) → is d x ≡ marked (holds_value d x)
is_mark d none = refl
is_mark d (some v) = refl

when_mark : (s t : Bool) → when (marked s) (marked t) ≡ marked (s && t)
when_mark true t = refl
when_mark false t = refl

within_mark : (w s t : Bool) → when (marked (w && s)) (marked (w && t)) ≡ marked (w && (s && t))
within_mark true true t = refl
within_mark true false t = refl
within_mark false s t = refl

or_mark : (w s t : Bool) → or_else (marked (w && s)) (marked (w && t)) ≡ marked (w && (s || t))
or_mark true true t = refl
or_mark true false t = refl
or_mark false s t = refl

unless_mark : (w t : Bool) → unless (marked (w && t)) (marked w) ≡ marked (w && not t)
unless_mark true true = refl
unless_mark true false = refl
unless_mark false t = refl

module _ (lo hi : ℕ) (a b : List Span) (real : lo < hi) (ta : Tidy 0 a) (tb : Tidy 0 b) where
  -- the window
  window : (k : ℕ) → at (span lo hi 0 ∷ []) k ≡ marked (inside lo hi k)
  unfolding at
  window k = refl

  window_ordered : Ordered 0 (span lo hi 0 ∷ [])
  window_ordered = (omega arith, real, tt)

  atom_means : (d : ℕ) (m : List Span) → Tidy 0 m → Means (common (span lo hi 0 ∷ []) (chosen d m)) (λ k. marked (inside lo hi k && holds_value d (at m k)))
  atom_means d m t =
      let c = chosen_means d m t.ordered in
      reworded (common_means (span lo hi 0 ∷ []) (chosen d m) window_ordered c.tidy.ordered)
      (λ k. rw (window k, c.holds k, is_mark d (at m k)) (when_mark (inside lo hi k) (holds_value d (at m k))))

  pub result_means : (q : Query) → Means (result lo hi a b q) (λ k. marked (is_true lo hi a b q k))
  unfolding result is_true truth
  result_means (first d) = atom_means d a ta
  result_means (second d) = atom_means d b tb
  result_means (no q) =
      let p = result_means q in
      reworded (gaps_means lo hi 0 (result lo hi a b q) real p.tidy.ordered)
      (λ k. rw (p.holds k) (unless_mark (inside lo hi k) (truth q (at a k) (at b k))))
  result_means (both p q) =
      let x = result_means p in
      let y = result_means q in
      reworded (common_means (result lo hi a b p) (result lo hi a b q) x.tidy.ordered y.tidy.ordered)
      (λ k. rw (x.holds k, y.holds k) (within_mark (inside lo hi k) (truth p (at a k) (at b k)) (truth q (at a k) (at b k))))
  result_means (either p q) =
      let x = result_means p in
      let y = result_means q in
      reworded (over_means (result lo hi a b p) (result lo hi a b q) x.tidy.ordered y)
      (λ k. rw (x.holds k) (or_mark (inside lo hi k) (truth p (at a k) (at b k)) (truth q (at a k) (at b k))))

  -- any tidy list of the true instants is the result
  pub result_only : (q : Query) (m : List Span) → Means m (λ k. marked (is_true lo hi a b q k)) → m ≡ result lo hi a b q
  result_only q m e = only e (result_means q)
