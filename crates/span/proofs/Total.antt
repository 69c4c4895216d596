-- The total counts the instants that a list holds; and totals that add up.
use Prim.Native.Nat.{ℕ, zero, suc, ◌+◌, ◌-◌, ◌≤◌, ◌<◌, min, max}
use native.Mathlib.Omega.{arith}
use mathlib.Core.Path.{◌≡◌, refl, ap, sym, ◌∙◌}
use mathlib.Core.List.{List, [], ◌∷◌}
use mathlib.Core.Bool.{Bool, true, false, ◌||◌, cond}
use mathlib.Core.Option.{Option, some, none}
use borrow.Author.Tests.{lt-ltb}
use Rattle.span.specs.Span.{Span, at, Ordered, Upto, keep, before, piece}
use Rattle.span.specs.Labels.{relabelled, those}
use Rattle.span.specs.Operations.{Plain, common, when, united, any, holds, span_total, tally, count}
use Rattle.span.proofs.Tests.{below, among, beyond, place, lt_cases}
use Rattle.span.proofs.Holding.{at_in, at_out, at_below}
use Rattle.span.proofs.Sets.{common_means}
use Rattle.span.proofs.Union.{ordered_united, plain_united, holds_united, at_plain}

pub total_keep : (x : Span) (xs : List Span) → span_total (keep x xs) ≡ (x.hi - x.lo) + span_total xs
unfolding span_total keep
total_keep x xs = lt_cases x.lo x.hi (λ m. span_total m ≡ (x.hi - x.lo) + span_total xs) (λ p. refl) (λ p. omega arith)

-- one instant more
total_step : (b n : ℕ) (m : List Span) → Ordered b m → span_total (before (suc n) m) ≡ span_total (before n m) + tally (at m n)
unfolding span_total before at
total_step b n [] o = refl
total_step b n (x ∷ xs) o =
    let ih = total_step x.hi n xs o.2 in
    simp total_keep (elim (place x.lo x.hi n) [
      | below p ↦ rw (at_out x xs n (omega arith)) (omega arith)
      | among p q ↦ rw (at_in x xs n (omega arith)) (omega (arith, ap tally (at_below xs n o.2 q)))
      | beyond p q ↦ rw (at_out x xs n (omega arith)) (omega arith)
    ])

total_none : (m : List Span) → span_total (before 0 m) ≡ 0
unfolding span_total before
total_none [] = refl
total_none (x ∷ xs) = rw (total_keep, total_none xs) (omega arith)

pub total_before : (b n : ℕ) (m : List Span) → Ordered b m → span_total (before n m) ≡ count (at m) n
unfolding count
total_before b zero m o = total_none m
total_before b (suc n) m o = total_step b n m o ∙ rw (total_before b n m o)

before_all : (b n : ℕ) (m : List Span) → Ordered b m → Upto n m → before n m ≡ m
unfolding before keep
before_all b n [] o u = refl
before_all b n (x ∷ xs) o u =
    let hi : min x.hi n ≡ x.hi = omega arith in
    rw (hi, lt-ltb x.lo x.hi o.1, before_all x.hi n xs o.2 u.1)

-- TOTAL: of a list that ends by n, at how many instants before n something is held
pub total_counts : (b n : ℕ) (m : List Span) → Ordered b m → Upto n m → span_total m ≡ count (at m) n
total_counts b n m o u = ap span_total (sym (before_all b n m o u)) ∙ total_before b n m o

-- counts of what is held alike are alike
pub count_same : (f g : ℕ → Option ℕ) (n : ℕ) → ((k : ℕ) → k < n → f k ≡ g k) → count f n ≡ count g n
unfolding count
count_same f g zero h = refl
count_same f g (suc n) h = let rest = count_same f g n (λ k i. h k (omega arith)) in omega (arith, rest, ap tally (h n (omega arith)))

-- PAIRS: two tell of as many instants as two others, at each instant, and so before any n
abbrev pub AsMany : (f g h i : ℕ → Option ℕ) → Type 0
AsMany f g h i = (k : ℕ) → tally (f k) + tally (g k) ≡ tally (h k) + tally (i k)

count_pairs : (f g h i : ℕ → Option ℕ) (n : ℕ) → AsMany f g h i → count f n + count g n ≡ count h n + count i n
unfolding count
count_pairs f g h i zero e = refl
count_pairs f g h i (suc n) e = omega (arith, e n, count_pairs f g h i n e)

-- a list in order that ends by n
pub record EndsBy (n : ℕ) (m : List Span) : Type 0 where
  pub ordered : Ordered 0 m
  pub upto : Upto n m

-- lists of which two tell of as many instants as two others have together the same total
pub total_pairs : {n : ℕ} {a b c d : List Span} → EndsBy n a → EndsBy n b → EndsBy n c → EndsBy n d
    → AsMany (at a) (at b) (at c) (at d) → span_total a + span_total b ≡ span_total c + span_total d
total_pairs {n} {a} {b} {c} {d} p q r s e =
    rw (
      total_counts 0 n a p.ordered p.upto,
      total_counts 0 n b q.ordered q.upto,
      total_counts 0 n c r.ordered r.upto,
      total_counts 0 n d s.ordered s.upto,
    )
    (count_pairs (at a) (at b) (at c) (at d) n e)

-- what ends by b ends by any later c
pub upto_more : {b c : ℕ} (m : List Span) → b ≤ c → Upto b m → Upto c m
upto_more [] h u = tt
upto_more (x ∷ xs) h u = (omega arith, upto_more xs h u.1)

-- any list ends somewhere
bound : List Span → ℕ
bound [] = 0
bound (x ∷ xs) = max x.hi (bound xs)

upto_bound : (m : List Span) → Upto (bound m) m
unfolding bound
upto_bound [] = tt
upto_bound (x ∷ xs) = (omega arith, upto_more {b = bound xs} xs (omega arith) (upto_bound xs))

ends_by : (n : ℕ) (m : List Span) → bound m ≤ n → Ordered 0 m → EndsBy n m
ends_by n m h o = record { ordered = o; upto = upto_more {b = bound m} m h (upto_bound m) }

-- A UNION AND AN INTERSECTION have together as many instants as the two sets
tally_both : (s t : Bool) → tally (cond (s || t) (some 0) none) + tally (when (cond s (some 0) none) (cond t (some 0) none))
    ≡ tally (cond s (some 0) none) + tally (cond t (some 0) none)
tally_both true true = refl
tally_both true false = refl
tally_both false true = refl
tally_both false false = refl

pub total_both : (a b : List Span) → Ordered 0 a → Ordered 0 b → Plain a → Plain b → span_total (united a b) + span_total (common a b) ≡ span_total a + span_total b
total_both a b o q l m =
    let c = common_means a b o q in
    let n : ℕ = max (max (bound a) (bound b)) (max (bound (united a b)) (bound (common a b))) in
    total_pairs {n = n}
    (ends_by n (united a b) (omega arith) (ordered_united 0 a b o q))
    (ends_by n (common a b) (omega arith) c.tidy.ordered)
    (ends_by n a (omega arith) o)
    (ends_by n b (omega arith) q)
    (λ k. rw (c.holds k, at_plain (united a b) k (plain_united a b l m), holds_united k a b o q, at_plain a k l, at_plain b k m)
    (tally_both (any (holds k) a) (any (holds k) b)))

-- THE SPANS THAT PASS A TEST: their total, span by span, is no more than that of all
pub total_those : (p : ℕ → Bool) (x : Span) (xs : List Span) → span_total (those p (x ∷ xs)) ≡ cond (p x.label) (x.hi - x.lo) 0 + span_total (those p xs)
unfolding relabelled span_total
total_those p x xs = go (p x.label)
  where
    go : (t : Bool) → span_total (piece x.lo x.hi (cond t (some x.label) none) (those p xs)) ≡ cond t (x.hi - x.lo) 0 + span_total (those p xs)
    go true = refl
    go false = omega arith

cond_most : (t : Bool) (n : ℕ) → cond t n 0 ≤ n
cond_most true n = omega arith
cond_most false n = omega arith

pub those_most : (p : ℕ → Bool) (m : List Span) → span_total (those p m) ≤ span_total m
unfolding relabelled span_total
those_most p [] = omega arith
those_most p (x ∷ xs) = omega (arith, total_those p x xs, cond_most (p x.label) (x.hi - x.lo), those_most p xs)
