-- Of a set a function answers as of a map; what stores ranges of value 0 is a set. And what the outcomes of sets mean, for both kinds, of any two
-- sound sets: the points of a union and of an intersection, their totals, and that neither depends on the order.
use Prim.Native.Nat.{ℕ, zero, suc, ◌+◌, ◌-◌, ◌≤◌}
use native.Mathlib.Omega.{arith}
use mathlib.Core.Path.{◌≡◌, refl, sym, ◌∙◌}
use mathlib.Core.Bool.{Bool, true, false, ◌&&◌, ◌||◌, cond}
use mathlib.Core.List.{List, [], ◌∷◌, ◌++◌, map}
use mathlib.Core.Option.{Option, some, none}
use borrow.Author.Tests.{eqb-true}
use lib.Dec.{eqb}
use lib.ListN.{length, take, replicate}
use lib.IntN.{ℤ}
use Rattle.span.specs.Span.{Span, Ordered}
use Rattle.span.specs.Operations.{Plain, common, when, united, any, holds, links, span_total}
use Rattle.span.proofs.Tests.{both}
use Rattle.span.proofs.Sets.{common_means, common_plain}
use Rattle.span.proofs.Union.{holds_united, links_united, at_plain}
use Rattle.span.proofs.Walks.{Spaced, tidy_spaced, common_swap, united_swap, length_common, length_united}
use Rattle.span.proofs.Total.{total_both}
use Rattle.key.specs.Range.{Kind}
use Rattle.outcomes.specs.Stored.{spans, ranges, filled, storing, noughts}
use Rattle.outcomes.specs.declared.Stored.{Stored}
use Rattle.outcomes.specs.Sets.{plain, if_set, SoundSet, intersection_sound}
use Rattle.outcomes.proofs.Formed.{Formed, formed, length_ranges}
use Rattle.answers.specs.declared.Refusal.{Refusal}

-- OF A SET a function answers as of a map
pub if_set_lem : {A : Type 0} (m : Stored) (refused : Refusal → A) {answer : A} → plain m ≡ true → if_set m answer refused ≡ answer
if_set_lem m refused z = rw z

-- the ranges of a set have value 0
plain_spans : (kind : Kind) (ss es : List ℤ) (vs : List ℕ) → noughts vs ≡ true → Plain (spans kind ss es vs)
unfolding spans noughts
plain_spans kind [] es vs e = tt
plain_spans kind (s ∷ ss) [] vs e = tt
plain_spans kind (s ∷ ss) (e ∷ es) [] h = tt
plain_spans kind (s ∷ ss) (e ∷ es) (v ∷ vs) h = let (a, b) = both (eqb v 0) (noughts vs) h in (eqb-true v 0 a, plain_spans kind ss es vs b)

-- and so those of a part of them
pub plain_take : (n : ℕ) (xs : List Span) → Plain xs → Plain (take n xs)
plain_take zero xs p = tt
plain_take (suc n) [] p = tt
plain_take (suc n) (x ∷ xs) p = (p.0, plain_take n xs p.1)

pub plain_ranges : (kind : Kind) (m : Stored) → plain m ≡ true → Plain (ranges kind m)
unfolding ranges plain
plain_ranges kind m h = plain_take m.count (spans kind m.starts m.ends m.values) (plain_spans kind m.starts m.ends m.values h)

-- and ranges of value 0 are stored as a set
noughts_replicate : (n : ℕ) → noughts (replicate n 0) ≡ true
unfolding noughts
noughts_replicate zero = refl
noughts_replicate (suc n) = noughts_replicate n

noughts_labels : (xs : List Span) (ys : List ℕ) → Plain xs → noughts ys ≡ true → noughts (map (λ (x : Span). x.label) xs ++ ys) ≡ true
unfolding noughts
noughts_labels [] ys p h = h
noughts_labels (x ∷ xs) ys p h = rw p.0 (noughts_labels xs ys p.1 h)

pub plain_storing : (kind : Kind) (n : ℕ) (xs : List Span) → Plain xs → plain (storing kind n xs) ≡ true
unfolding plain storing filled
plain_storing kind n xs p = noughts_labels xs _ p (noughts_replicate (n - length (map (λ (x : Span). x.label) xs)))

module _ (kind : Kind) {m : Stored} (set : SoundSet kind m) where
  set_plain : Plain (ranges kind m)
  set_plain = plain_ranges kind m set.plain_too

  set_formed : Formed kind (length m.starts) m
  set_formed = formed kind (length m.starts) m set.sound.well

  set_ordered : Ordered 0 (ranges kind m)
  set_ordered = set_formed.tidy.ordered

  set_spaced : Spaced 0 (ranges kind m)
  set_spaced = tidy_spaced 0 (ranges kind m) set_ordered set_formed.tidy.separate set_plain

  -- it holds no more ranges than it has places
  set_few : length (ranges kind m) ≤ length m.starts
  set_few =
      omega (
        arith,
        set_formed.held,
        length_ranges kind (length m.starts) m (record { starts = refl; ends = set.sound.ends_as; values = set.sound.values_as }) set_formed.held,
      )

-- does a list hold the instant
abbrev pub covers : List Span → ℕ → Bool
covers m k = any (holds k) m

both_hold : (r s t : Bool) → cond {A = Option ℕ} r (some 0) none ≡ when (cond s (some 0) none) (cond t (some 0) none) → r ≡ (s && t)
both_hold true true true e = refl
both_hold false true true e = absurd (let z : ◌≡◌ {A = ℕ} 0 1 = cc in omega arith)
both_hold true true false e = absurd (let z : ◌≡◌ {A = ℕ} 0 1 = cc in omega arith)
both_hold false true false e = refl
both_hold true false t e = absurd (let z : ◌≡◌ {A = ℕ} 0 1 = cc in omega arith)
both_hold false false t e = refl

module _ (kind : Kind) {a b : Stored} (s : SoundSet kind a) (t : SoundSet kind b) where
  -- INTERSECTION: an instant is in it exactly when it is in both
  pub intersection_points : (k : ℕ) → covers (common (ranges kind a) (ranges kind b)) k ≡ (covers (ranges kind a) k && covers (ranges kind b) k)
  intersection_points k =
      let x = ranges kind a in
      let y = ranges kind b in
      let c = common_means x y (set_ordered kind s) (set_ordered kind t) in
      both_hold (covers (common x y) k) (covers x k) (covers y k)
      (sym (at_plain (common x y) k (common_plain x y (set_ordered kind s) (set_ordered kind t) (set_plain kind t))) ∙ c.holds k
      ∙ rw (at_plain x k (set_plain kind s), at_plain y k (set_plain kind t)))

  -- it is the same list either way, and so is what is written
  pub intersection_swaps : common (ranges kind a) (ranges kind b) ≡ common (ranges kind b) (ranges kind a)
  intersection_swaps = common_swap (ranges kind a) (ranges kind b) (set_ordered kind s) (set_ordered kind t) (set_plain kind s) (set_plain kind t)

  pub intersected_swaps : (starts ends : List ℤ) → intersection_sound kind a b starts ends ≡ intersection_sound kind b a starts ends
  unfolding intersection_sound
  intersected_swaps starts ends = rw intersection_swaps

  -- UNION: an instant is in it exactly when it is in one of the two. This says nothing of neighbours
  pub union_points : (k : ℕ) → covers (united (ranges kind a) (ranges kind b)) k ≡ (covers (ranges kind a) k || covers (ranges kind b) k)
  union_points k = holds_united k (ranges kind a) (ranges kind b) (set_ordered kind s) (set_ordered kind t)

  -- two neighbouring instants lie in one range of it exactly when one range of either set holds both
  pub union_neighbours : (k : ℕ) → any (links k) (united (ranges kind a) (ranges kind b)) ≡ (any (links k) (ranges kind a) || any (links k) (ranges kind b))
  union_neighbours k = links_united k (ranges kind a) (ranges kind b) (set_ordered kind s) (set_ordered kind t)

  pub union_swaps : united (ranges kind a) (ranges kind b) ≡ united (ranges kind b) (ranges kind a)
  union_swaps = united_swap (ranges kind a) (ranges kind b) (set_ordered kind s) (set_ordered kind t) (set_plain kind s) (set_plain kind t)

  -- AT MOST 1,023 ranges, and at most 1,024, at 512 places a set
  pub intersection_few : length (common (ranges kind a) (ranges kind b)) ≤ length a.starts + length b.starts - 1
  intersection_few = omega (arith, length_common (ranges kind a) (ranges kind b) (set_spaced kind s) (set_spaced kind t), set_few kind s, set_few kind t)

  pub union_few : length (united (ranges kind a) (ranges kind b)) ≤ length a.starts + length b.starts
  union_few = omega (arith, length_united (ranges kind a) (ranges kind b), set_few kind s, set_few kind t)

  -- TOTALS: those of the union and of the intersection add up to those of the two sets
  pub totals_add : span_total (united (ranges kind a) (ranges kind b)) + span_total (common (ranges kind a) (ranges kind b))
      ≡ span_total (ranges kind a) + span_total (ranges kind b)
  totals_add = total_both (ranges kind a) (ranges kind b) (set_ordered kind s) (set_ordered kind t) (set_plain kind s) (set_plain kind t)
