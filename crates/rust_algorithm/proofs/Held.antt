-- What is held while the algorithm runs: the range to insert is laid over the rest, and each adjustment changes nothing that is held.
use Prim.Native.Nat.{ℕ, ◌≤◌, ◌<◌, min, max}
use native.Mathlib.Omega.{arith}
use mathlib.Core.Path.{◌≡◌, refl, sym, ◌∙◌}
use mathlib.Core.List.{List, [], ◌∷◌, ◌++◌}
use mathlib.Core.Bool.{cond}
use mathlib.Core.Option.{some}
use Rattle.span.specs.Span.{Span, span, inside, at, or_else, Upto, Apart, keep}
use Rattle.span.proofs.Tests.{below, among, beyond, place, in_yes, in_no, in_cases, in_same}
use Rattle.span.proofs.Holding.{at_in, at_out, at_app, at_keep, at_upto}
use Rattle.span.proofs.Pieces.{Ahead}
use Rattle.span.proofs.Local.{EndsBefore}

pub at_behind : (ls xs ys : List Span) (k : ℕ) → at xs k ≡ at ys k → at (ls ++ xs) k ≡ at (ls ++ ys) k
at_behind ls xs ys k e = at_app ls xs k ∙ rw e (sym (at_app ls ys k))

-- laid over what comes after ls
pub at_laid : (ls rest : List Span) (lo hi v k : ℕ) → Upto lo ls → at (ls ++ span lo hi v ∷ rest) k ≡ cond (inside lo hi k) (some v) (at (ls ++ rest) k)
unfolding at
at_laid ls rest lo hi v k u = at_app ls (span lo hi v ∷ rest) k ∙ in_cases lo hi k (λ a. or_else (at ls k) (cond (inside lo hi k) (some v) (at rest k)) ≡ a)
    (λ w. rw (in_yes lo hi k w, at_upto lo ls k u w.from))
    (λ n. rw (in_no lo hi k n) (sym (at_app ls rest k)))

pub at_head : (x y : Span) (xs : List Span) (k : ℕ) → x.label ≡ y.label → inside x.lo x.hi k ≡ inside y.lo y.hi k → at (x ∷ xs) k ≡ at (y ∷ xs) k
unfolding at
at_head x y xs k l e = rw (e, l)

module _ (s e v : ℕ) (x : Span) (xs : List Span) (k : ℕ) (real : s < e) (full : x.lo < x.hi) where
  pub at_adopt : x.lo ≤ e → s ≤ x.hi → x.label ≡ v → at (span (min s x.lo) (max e x.hi) v ∷ xs) k ≡ at (span s e v ∷ x ∷ xs) k
  at_adopt h i l =
      let both = span (min s x.lo) (max e x.hi) v in
      let new = span s e v in
      elim (place s e k) [
        | below p ↦ at_head both x xs k (sym l) (in_same (omega arith) (omega arith)) ∙ sym (at_out new (x ∷ xs) k (omega arith))
        | among p q ↦ at_in both xs k (omega arith) ∙ sym (at_in new (x ∷ xs) k (omega arith))
        | beyond p q ↦ at_head both x xs k (sym l) (in_same (omega arith) (omega arith)) ∙ sym (at_out new (x ∷ xs) k (omega arith))
      ]

  pub at_trim : s ≤ x.lo → x.lo ≤ e → at (span s e v ∷ keep (span e x.hi x.label) xs) k ≡ at (span s e v ∷ x ∷ xs) k
  at_trim h i =
      let new = span s e v in
      let right = span e x.hi x.label in
      elim (place s e k) [
        | below p ↦ at_out new _ k (omega arith) ∙ at_keep right xs k ∙ at_out right xs k (omega arith)
            ∙ sym (at_out new (x ∷ xs) k (omega arith) ∙ at_out x xs k (omega arith))
        | among p q ↦ at_in new _ k (omega arith) ∙ sym (at_in new (x ∷ xs) k (omega arith))
        | beyond p q ↦ at_out new _ k (omega arith) ∙ at_keep right xs k ∙ at_head right x xs k refl (in_same (omega arith) (omega arith))
            ∙ sym (at_out new (x ∷ xs) k (omega arith))
      ]

  pub at_split : x.lo ≤ s → s ≤ x.hi → at (span x.lo s x.label ∷ span s e v ∷ keep (span e x.hi x.label) xs) k ≡ at (span s e v ∷ x ∷ xs) k
  at_split h i =
      let left = span x.lo s x.label in
      let new = span s e v in
      let right = span e x.hi x.label in
      elim (place s e k) [
        | below p ↦ at_head left x (new ∷ keep right xs) k refl (in_same (omega arith) (omega arith))
            ∙ at_behind (x ∷ []) (new ∷ keep right xs) xs k (at_out new _ k (omega arith) ∙ at_keep right xs k ∙ at_out right xs k (omega arith))
            ∙ sym (at_out new (x ∷ xs) k (omega arith))
        | among p q ↦ at_out left _ k (omega arith) ∙ at_in new _ k (omega arith) ∙ sym (at_in new (x ∷ xs) k (omega arith))
        | beyond p q ↦ at_out left _ k (omega arith) ∙ at_out new _ k (omega arith) ∙ at_keep right xs k
            ∙ at_head right x xs k refl (in_same (omega arith) (omega arith)) ∙ sym (at_out new (x ∷ xs) k (omega arith))
      ]

  pub at_swap : x.hi ≤ s → at (x ∷ span s e v ∷ xs) k ≡ at (span s e v ∷ x ∷ xs) k
  at_swap h =
      let new = span s e v in
      elim (place s e k) [
        | below p ↦ at_behind (x ∷ []) (new ∷ xs) xs k (at_out new xs k (omega arith)) ∙ sym (at_out new (x ∷ xs) k (omega arith))
        | among p q ↦ at_out x _ k (omega arith) ∙ at_in new xs k (omega arith) ∙ sym (at_in new (x ∷ xs) k (omega arith))
        | beyond p q ↦ at_out x _ k (omega arith) ∙ at_out new xs k (omega arith) ∙ sym (at_out new (x ∷ xs) k (omega arith) ∙ at_out x xs k (omega arith))
      ]

-- beside what is held: what may follow what
pub apart_alike : (x y : Span) (m : List Span) → x.hi ≡ y.hi → x.label ≡ y.label → Apart x m → Apart y m
apart_alike x y [] h l a = tt
apart_alike x y (z ∷ zs) h l a = λ j. a (omega arith)

pub ahead_alike : (ls : List Span) (y z : Span) → y.lo ≡ z.lo → y.label ≡ z.label → Ahead ls y → Ahead ls z
ahead_alike [] y z h l a = tt
ahead_alike (x ∷ xs) y z h l a = (record { past = omega (arith, a.0.past); apart = λ j. a.0.apart (omega arith) }, ahead_alike xs y z h l a.1)

pub ahead_ends : (ls : List Span) (y : Span) → EndsBefore y.lo ls → Ahead ls y
ahead_ends [] y e = tt
ahead_ends (x ∷ xs) y e = (record { past = omega arith; apart = λ j. omega arith }, ahead_ends xs y e.1)

pub upto_ends : (c : ℕ) (ls : List Span) → EndsBefore c ls → Upto c ls
upto_ends c [] e = tt
upto_ends c (x ∷ xs) e = (omega arith, upto_ends c xs e.1)

pub upto_right : (c : ℕ) (xs ys : List Span) → Upto c (xs ++ ys) → Upto c ys
upto_right c [] ys u = u
upto_right c (x ∷ xs) ys u = upto_right c xs ys u.1

-- some key is past all
pub limit : (m : List Span) → (c : ℕ) × Upto c m
limit [] = (0, tt)
limit (x ∷ xs) = let r = limit xs in (max x.hi r.0, (omega arith, later xs r.0 r.1))
  where
    later : (ys : List Span) (c : ℕ) → Upto c ys → Upto (max x.hi c) ys
    later [] c u = tt
    later (y ∷ ys) c u = (omega arith, later ys c u.1)
