-- Gaps, intersection and union in maximal spans: what each means at each instant. `only` makes each the only one.
use Prim.Native.Nat.{ℕ, ◌<◌, max}
use native.Mathlib.Omega.{arith}
use mathlib.Core.Path.{◌≡◌, refl, sym, ◌∙◌}
use mathlib.Core.List.{List, [], ◌∷◌}
use mathlib.Core.Bool.{Bool, true, false, cond}
use mathlib.Core.Option.{Option, some, none}
use Rattle.span.specs.Span.{Span, inside, at, or_else, Ordered, Upto, Tidy, Means, before, put, last, Real}
use Rattle.span.specs.Operations.{Plain, puts, cuts, uncovered, laid_over, within, common_parts, common, chosen, is, unless, when}
use Rattle.span.specs.Labels.{equals, member}
use Rattle.span.proofs.Tests.{in_cases, below, among, beyond, place, in_yes, yes_in, in_no}
use Rattle.span.proofs.Holding.{at_in, at_behind, at_below, at_upto, at_app, at_before, at_after, or_none}
use Rattle.span.proofs.Holding.{ordered_from, ordered_app, ordered_before, ordered_after, upto_before, upto_after}
use Rattle.span.proofs.Laws.{only, reworded, nothing, itself, joined_means, history_means}
use Rattle.span.proofs.Labels.{relabelled_means}

real_puts : (b : ℕ) (m : List Span) → Ordered b m → Real (puts m)
unfolding puts
real_puts b [] o = tt
real_puts b (x ∷ xs) o = (o.1, real_puts x.hi xs o.2)

real_cuts : (b : ℕ) (m : List Span) → Ordered b m → Real (cuts m)
unfolding cuts
real_cuts b [] o = tt
real_cuts b (x ∷ xs) o = (o.1, real_cuts x.hi xs o.2)

unless_cond : (t : Bool) (v : ℕ) (a old : Option ℕ) → unless a (cond t none old) ≡ unless (cond t (some v) a) old
unless_cond true v none old = refl
unless_cond true v (some u) old = refl
unless_cond false v a old = refl

last_cuts : (m : List Span) (k : ℕ) (old : Option ℕ) → last (cuts m) k old ≡ unless (at m k) old
unfolding cuts last at
last_cuts [] k old = refl
last_cuts (x ∷ xs) k old = last_cuts xs k _ ∙ unless_cond (inside x.lo x.hi k) x.label (at xs k) old

-- GAPS: the instants of the outer range at which nothing is held
pub gaps_means : (lo hi b : ℕ) (m : List Span) → lo < hi → Ordered b m → Means (uncovered lo hi m) (λ k. unless (at m k) (cond (inside lo hi k) (some 0) none))
unfolding uncovered last
gaps_means lo hi b m h o = reworded (history_means (put lo hi 0 ∷ cuts m) (h, real_cuts b m o) nothing) (λ k. last_cuts m k _)

or_swap : (t : Bool) (v : ℕ) (a old : Option ℕ) → (t ≡ true → a ≡ none) → or_else a (cond t (some v) old) ≡ or_else (cond t (some v) a) old
or_swap true v a old h = rw (h refl)
or_swap false v a old h = refl

pub last_puts : (b : ℕ) (m : List Span) (k : ℕ) (old : Option ℕ) → Ordered b m → last (puts m) k old ≡ or_else (at m k) old
unfolding puts last at
last_puts b [] k old o = refl
last_puts b (x ∷ xs) k old o = last_puts x.hi xs k _ o.2
    ∙ or_swap (inside x.lo x.hi k) x.label (at xs k) old (λ e. at_below xs k o.2 (yes_in x.lo x.hi k e).to)

-- UNION: what a holds, and what b holds where a holds nothing
pub over_means : {f : ℕ → Option ℕ} (a b : List Span) → Ordered 0 a → Means b f → Means (laid_over a b) (λ k. or_else (at a k) (f k))
unfolding laid_over
over_means a b o u = reworded (history_means (puts a) (real_puts 0 a o) u) (λ k. last_puts 0 a k _ o)

-- to put the spans of a tidy list one by one makes it again
pub rebuilt : {m : List Span} → Tidy 0 m → laid_over m [] ≡ m
rebuilt {m} t = only (reworded (over_means m [] t.ordered nothing) (λ k. or_none (at m k))) (itself t)

-- within: what is held there, and nothing elsewhere
pub ordered_within : (lo hi : ℕ) (m : List Span) → Ordered 0 m → Ordered lo (within lo hi m)
unfolding within
ordered_within lo hi m o = ordered_from {b = max 0 lo} (within lo hi m) (omega arith) (ordered_after 0 lo (before hi m) (ordered_before 0 hi m o))

pub upto_within : (lo hi : ℕ) (m : List Span) → Upto hi (within lo hi m)
unfolding within
upto_within lo hi m = upto_after hi lo (before hi m) (upto_before hi m)

pub at_within : (lo hi : ℕ) (m : List Span) (k : ℕ) → Ordered 0 m → at (within lo hi m) k ≡ cond (inside lo hi k) (at m k) none
unfolding within
at_within lo hi m k o = elim (place lo hi k) [
  | below p ↦ rw (in_no lo hi k (omega arith)) (at_below (within lo hi m) k (ordered_within lo hi m o) p)
  | among p q ↦ rw (in_yes lo hi k (omega arith), at_after lo (before hi m) k p, at_before hi m k q)
  | beyond p q ↦ rw (in_no lo hi k (omega arith)) (at_upto hi (within lo hi m) k (upto_within lo hi m) q)
]

when_cond : (t : Bool) (v : ℕ) (a b : Option ℕ) → or_else (cond t b none) (when a b) ≡ when (cond t (some v) a) b
when_cond true v none none = refl
when_cond true v none (some w) = refl
when_cond true v (some u) none = refl
when_cond true v (some u) (some w) = refl
when_cond false v a b = refl

at_parts : (a b : List Span) (k : ℕ) → Ordered 0 b → at (common_parts a b) k ≡ when (at a k) (at b k)
unfolding common_parts at
at_parts [] b k o = refl
at_parts (x ∷ xs) b k o = rw (at_app, at_within x.lo x.hi b k o, at_parts xs b k o) (when_cond (inside x.lo x.hi k) x.label (at xs k) (at b k))

ordered_parts : (c : ℕ) (a b : List Span) → Ordered c a → Ordered 0 b → Ordered c (common_parts a b)
unfolding common_parts
ordered_parts c [] b o p = tt
ordered_parts c (x ∷ xs) b o p =
    let w = within x.lo x.hi b in
    ordered_app c x.hi w (common_parts xs b) (omega arith) (ordered_from {b = x.lo} w (omega arith) (ordered_within x.lo x.hi b p)) (upto_within x.lo x.hi b) (ordered_parts x.hi xs b o.2 p)

-- INTERSECTION: what b holds where a holds something
pub common_means : (a b : List Span) → Ordered 0 a → Ordered 0 b → Means (common a b) (λ k. when (at a k) (at b k))
unfolding common
common_means a b o p = reworded (joined_means (common_parts a b) (ordered_parts 0 a b o p)) (λ k. at_parts a b k p)

-- THE INSTANTS OF A LABEL: where the list holds it
pub chosen_means : (v : ℕ) (m : List Span) → Ordered 0 m → Means (chosen v m) (λ k. is v (at m k))
unfolding chosen
chosen_means v m o = relabelled_means (member (equals v)) m o

-- a list is a set where it holds no label but 0
pub plain_at : (b : ℕ) (m : List Span) → Ordered b m → ((k v : ℕ) → at m k ≡ some v → v ≡ 0) → Plain m
plain_at b [] o h = tt
plain_at b (x ∷ xs) o h = (h x.lo x.label (at_in x xs x.lo (omega arith)), plain_at x.hi xs o.2 (λ k v e. h k v (at_behind x xs k o.2 e)))

pub at_zero : (m : List Span) (k v : ℕ) → Plain m → at m k ≡ some v → v ≡ 0
unfolding at
at_zero [] k v l = λ e. cc
at_zero (x ∷ xs) k v l = let rest = at_zero xs k v l.1 in
    in_cases x.lo x.hi k (λ (a : Option ℕ). a ≡ some v → v ≡ 0) (λ w e. let u : x.label ≡ v = cc in omega arith) (λ n e. rest e)

-- gaps, and the intersection and the union of sets, are sets
unless_zero : (a : Option ℕ) (t : Bool) (v : ℕ) → unless a (cond t (some 0) none) ≡ some v → v ≡ 0
unless_zero none true v e = cc
unless_zero none false v e = cc
unless_zero (some u) t v e = cc

pub gaps_plain : (lo hi b : ℕ) (m : List Span) → lo < hi → Ordered b m → Plain (uncovered lo hi m)
gaps_plain lo hi b m h o = let a = gaps_means lo hi b m h o in
    plain_at 0 (uncovered lo hi m) a.tidy.ordered (λ k v e. unless_zero (at m k) (inside lo hi k) v (sym (a.holds k) ∙ e))

when_some : (a b : Option ℕ) (v : ℕ) → when a b ≡ some v → b ≡ some v
when_some none b v e = cc
when_some (some u) b v e = e

pub common_plain : (a b : List Span) → Ordered 0 a → Ordered 0 b → Plain b → Plain (common a b)
common_plain a b o p l = let c = common_means a b o p in
    plain_at 0 (common a b) c.tidy.ordered (λ k v e. at_zero b k v l (when_some (at a k) (at b k) v (sym (c.holds k) ∙ e)))

or_zero : (a b : Option ℕ) (v : ℕ) → (a ≡ some v → v ≡ 0) → (b ≡ some v → v ≡ 0) → or_else a b ≡ some v → v ≡ 0
or_zero none b v f g e = g e
or_zero (some u) b v f g e = f e

pub over_plain : (a b : List Span) → Ordered 0 a → Tidy 0 b → Plain a → Plain b → Plain (laid_over a b)
over_plain a b o t l m = let c = over_means a b o (itself t) in
    plain_at 0 (laid_over a b) c.tidy.ordered (λ k v e. or_zero (at a k) (at b k) v (at_zero a k v l) (at_zero b k v m) (sym (c.holds k) ∙ e))
