-- rangemap's Union gives `united`, and what it is collected into, a | b, is `over`, of both kinds.
use Prim.Native.Nat.{ℕ, zero, suc, ◌+◌, ◌-◌, ◌≤◌, ◌<◌, min, max}
use native.Mathlib.Omega.{arith}
use native.Mathlib.Decide.{dec_lt}
use mathlib.Core.Path.{◌≡◌, refl, ap, sym, ◌∙◌}
use mathlib.Core.List.{List, [], ◌∷◌}
use mathlib.Core.Option.{Option, some, none}
use lib.ListN.{length}
use borrow.Author.Tests.{lt-ltb, le-ltb}
use Rattle.span.specs.Span.{Span, inside, Ordered}
use Rattle.span.specs.Operations.{Plain, merged, absorb, united}
use Rattle.span.proofs.Tests.{in_yes, in_no}
use Rattle.span.proofs.Holding.{ordered_from}
use Rattle.span.proofs.Union.{ordered_united, plain_united}
use Rattle.span.proofs.Walks.{Spaced, spaced_from, spaced_ordered, spaced_plain, united_left, united_right, united_from, absorb_apart, absorb_both}
use Rattle.rust_algorithm.specs.InclusiveMap.{inclusive_range_contains}
use Rattle.rust_algorithm.specs.Operations.{range_merge, inclusive_merge, pair_step, join}
use Rattle.rust_algorithm.specs.Operations.{union_loop, union_next, collect_union, set_union, inclusive_set_union}
use Rattle.rust_algorithm.proofs.InclusiveEdits.{leb_ltb, ltb_same}

-- MERGE
merge_yes : (x y : Span) → x.lo ≤ y.lo → y.lo < x.hi → range_merge x y ≡ some (merged x y)
unfolding range_merge merged
merge_yes x y h i =
    let start : min x.lo y.lo ≡ x.lo = omega arith in
    rw (in_yes x.lo x.hi y.lo (omega arith)) (elim (dec_lt x.hi y.hi) [
      | yes p ↦ let end : max x.hi y.hi ≡ y.hi = omega arith in rw (lt-ltb x.hi y.hi p, start, end)
      | no p ↦ let end : max x.hi y.hi ≡ x.hi = omega arith in rw (le-ltb x.hi y.hi (omega arith), start, end)
    ])

merge_no : (x y : Span) → x.hi ≤ y.lo → range_merge x y ≡ none
unfolding range_merge
merge_no x y h = rw (in_no x.lo x.hi y.lo (omega arith))

inclusive_merge_is : (x y : Span) → x.lo < x.hi → y.lo < y.hi → inclusive_merge x y ≡ range_merge x y
unfolding inclusive_merge range_merge inclusive_range_contains inside
inclusive_merge_is x y h i =
    let whole : suc (y.hi - 1) ≡ y.hi = omega arith in
    rw (leb_ltb y.lo (x.hi - 1) x.hi (omega arith), ltb_same (x.hi - 1) (y.hi - 1) x.hi y.hi (omega arith) (omega arith), whole)

-- what the lists are: sets
pub from_next : (x : Span) (xs : List Span) → Spaced 0 (x ∷ xs) → Spaced 0 xs
from_next x xs s = spaced_from {b = suc x.hi} xs (omega arith) s.3

ordered_set : (a b : List Span) → Spaced 0 a → Spaced 0 b → Ordered 0 (united a b)
ordered_set a b s t = ordered_united 0 a b (spaced_ordered 0 a s) (spaced_ordered 0 b t)

plain_set : (a b : List Span) → Spaced 0 a → Spaced 0 b → Plain (united a b)
plain_set a b s t = plain_united a b (spaced_plain 0 a s) (spaced_plain 0 b t)

-- the first of the list starts at c or later: then all do
later : (c : ℕ) (x : Span) (xs : List Span) → c ≤ x.lo → Spaced 0 (x ∷ xs) → Ordered c (x ∷ xs)
later c x xs h s = (h, s.1, ordered_from xs (omega arith) (spaced_ordered (suc x.hi) xs s.3))

rest_later : (c : ℕ) (x : Span) (xs : List Span) → Ordered c (x ∷ xs) → Ordered c xs
rest_later c x xs o = ordered_from xs (omega arith) o.2

module _ (merge : Span → Span → Option Span) (is : (x y : Span) → x.lo < x.hi → y.lo < y.hi → merge x y ≡ range_merge x y) where
  -- a range to merge into, and what is left of two sets, none of which starts before it
  record Open (r : Span) (a b : List Span) : Type 0 where
    real : r.lo < r.hi
    zero_label : r.label ≡ 0
    left_set : Spaced 0 a
    right_set : Spaced 0 b
    left_from : Ordered r.lo a
    right_from : Ordered r.lo b

  -- what the loop gives
  record Merged (n : ℕ) (r : Span) (a b : List Span) : Type 0 where
    range : Span
    left : List Span
    right : List Span
    runs : union_loop merge n r a b ≡ some (pair_step (some range) left right)
    left_set : Spaced 0 left
    right_set : Spaced 0 right
    fewer : length left + length right ≤ length a + length b
    whole : range ∷ united left right ≡ absorb r (united a b)

  -- one more merged
  open_merged : (r x : Span) (a b : List Span) → r.lo ≤ x.lo → x.lo < x.hi → Open r a b → Open (merged r x) a b
  unfolding merged
  open_merged r x a b h i o =
      let start : min r.lo x.lo ≡ r.lo = omega arith in
      record {
        real = omega (arith, o.real);
        zero_label = o.zero_label;
        left_set = o.left_set;
        right_set = o.right_set;
        left_from = rw start o.left_from;
        right_from = rw start o.right_from;
      }

  again : (n : ℕ) (r x : Span) (a b c d : List Span) → union_loop merge (suc n) r a b ≡ union_loop merge n (merged r x) c d
      → suc (length c + length d) ≡ length a + length b
      → absorb r (united a b) ≡ absorb (merged r x) (united c d) → Merged n (merged r x) c d → Merged (suc n) r a b
  again n r x a b c d run f e w = record {
    range = w.range;
    left = w.left;
    right = w.right;
    runs = run ∙ w.runs;
    left_set = w.left_set;
    right_set = w.right_set;
    fewer = omega (arith, w.fewer);
    whole = w.whole ∙ sym e;
  }

  -- an end: nothing is merged any more
  ends : (n : ℕ) (r : Span) (a b : List Span) → union_loop merge (suc n) r a b ≡ some (pair_step (some r) a b) → Open r a b → Ordered r.hi a
      → Ordered r.hi b
      → Merged (suc n) r a b
  ends n r a b run o p q = record {
    range = r;
    left = a;
    right = b;
    runs = run;
    left_set = o.left_set;
    right_set = o.right_set;
    fewer = omega arith;
    whole = sym (absorb_apart r (united a b) o.real (united_from r.hi a b p q));
  }

  joined_left : (n : ℕ) (r x : Span) (xs b : List Span) → x.lo < r.hi → Open r (x ∷ xs) b
      → union_loop merge (suc n) r (x ∷ xs) b ≡ union_loop merge n (merged r x) xs b
  unfolding union_loop
  joined_left n r x xs b h o = rw (is r x o.real o.left_from.1, merge_yes r x o.left_from.0 h)

  absorbed_left : (r x : Span) (xs b : List Span) → x.lo < r.hi → Open r (x ∷ xs) b → absorb r (united (x ∷ xs) b) ≡ absorb (merged r x) (united xs b)
  absorbed_left r x xs b h o =
      let s = from_next x xs o.left_set in
      ap (absorb r) (united_left x xs b)
      ∙ absorb_both r x (united xs b) o.real o.left_from.1 (omega (arith, o.left_from.0, o.left_from.1, o.real)) h o.zero_label o.left_set.2
      (ordered_set xs b s o.right_set) (plain_set xs b s o.right_set)

  absorbed_right : (r y : Span) (a ys : List Span) → y.lo < r.hi → Open r a (y ∷ ys) → absorb r (united a (y ∷ ys)) ≡ absorb (merged r y) (united a ys)
  absorbed_right r y a ys h o =
      let s = from_next y ys o.right_set in
      ap (absorb r) (united_right a y ys o.left_set o.right_set)
      ∙ absorb_both r y (united a ys) o.real o.right_from.1 (omega (arith, o.right_from.0, o.right_from.1, o.real)) h o.zero_label
      o.right_set.2
      (ordered_set a ys o.left_set s) (plain_set a ys o.left_set s)

  -- what is open with the next of a list gone
  next_left : (r x : Span) (xs b : List Span) → Open r (x ∷ xs) b → Open r xs b
  next_left r x xs b o = record {
    real = o.real;
    zero_label = o.zero_label;
    left_set = from_next x xs o.left_set;
    right_set = o.right_set;
    left_from = rest_later r.lo x xs o.left_from;
    right_from = o.right_from;
  }

  next_right : (r y : Span) (a ys : List Span) → Open r a (y ∷ ys) → Open r a ys
  next_right r y a ys o = record {
    real = o.real;
    zero_label = o.zero_label;
    left_set = o.left_set;
    right_set = from_next y ys o.right_set;
    left_from = o.left_from;
    right_from = rest_later r.lo y ys o.right_from;
  }

  -- the left list has nothing to merge
  abbrev Apart : Span → List Span → Type 0
  Apart r [] = Unit {0}
  Apart r (x ∷ xs) = r.hi ≤ x.lo

  no_join : (r : Span) (a : List Span) → r.lo < r.hi → Spaced 0 a → Apart r a → join merge r a ≡ none
  no_join r [] h s p = refl
  no_join r (x ∷ xs) h s p = is r x h s.1 ∙ merge_no r x p

  apart_from : (r : Span) (a : List Span) → Spaced 0 a → Apart r a → Ordered r.hi a
  apart_from r [] s p = tt
  apart_from r (x ∷ xs) s p = later r.hi x xs p s

  joined_right : (n : ℕ) (r y : Span) (a ys : List Span) → Apart r a → y.lo < r.hi → Open r a (y ∷ ys)
      → union_loop merge (suc n) r a (y ∷ ys) ≡ union_loop merge n (merged r y) a ys
  unfolding union_loop
  joined_right n r y a ys p h o =
      rw (no_join r a o.real o.left_set p, is r y o.real o.right_from.1, merge_yes r y o.right_from.0 h)

  no_more : (n : ℕ) (r : Span) (a b : List Span) → Apart r a → Apart r b → Open r a b → union_loop merge (suc n) r a b ≡ some (pair_step (some r) a b)
  unfolding union_loop
  no_more n r a b p q o = rw (no_join r a o.real o.left_set p, no_join r b o.real o.right_set q)

  -- THE LOOP ends: a round where the left list has nothing to merge, by the rounds after it
  right_round : (n : ℕ) (r : Span) (a b : List Span) → ((s : Span) (c d : List Span) → length c + length d < n → Open s c d → Merged n s c d)
      → length a + length b < suc n → Apart r a → Open r a b → Merged (suc n) r a b
  right_round n r a [] rounds f p o = ends n r a [] (no_more n r a [] p tt o) o (apart_from r a o.left_set p) tt
  right_round n r a (y ∷ ys) rounds f p o = elim (dec_lt y.lo r.hi) [
    | yes h ↦ again n r y a (y ∷ ys) a ys (joined_right n r y a ys p h o) (omega arith) (absorbed_right r y a ys h o)
        (rounds (merged r y) a ys (omega arith) (open_merged r y a ys o.right_from.0 o.right_from.1 (next_right r y a ys o)))
    | no h ↦ ends n r a (y ∷ ys) (no_more n r a (y ∷ ys) p (omega arith) o) o (apart_from r a o.left_set p)
        (later r.hi y ys (omega arith) o.right_set)
  ]

  merges : (n : ℕ) (r : Span) (a b : List Span) → length a + length b < n → Open r a b → Merged n r a b
  merges zero r a b f o = absurd (omega arith)
  merges (suc n) r [] b f o = right_round n r [] b (merges n) f tt o
  merges (suc n) r (x ∷ xs) b f o = elim (dec_lt x.lo r.hi) [
    | yes h ↦ again n r x (x ∷ xs) b xs b (joined_left n r x xs b h o) (omega arith) (absorbed_left r x xs b h o)
        (merges n (merged r x) xs b (omega arith) (open_merged r x xs b o.left_from.0 o.left_from.1 (next_left r x xs b o)))
    | no h ↦ right_round n r (x ∷ xs) b (merges n) f (omega arith) o
  ]

  -- one call of next: the next range, and what is left
  record Given (a b : List Span) : Type 0 where
    range : Span
    left : List Span
    right : List Span
    runs : union_next merge a b ≡ some (pair_step (some range) left right)
    left_set : Spaced 0 left
    right_set : Spaced 0 right
    fewer : length left + length right < length a + length b
    whole : range ∷ united left right ≡ united a b

  given : (n : ℕ) (r : Span) (a b c d : List Span) → union_next merge a b ≡ union_loop merge n r c d → length c + length d < length a + length b
      → absorb r (united c d) ≡ united a b → Merged n r c d → Given a b
  given n r a b c d run f e w = record {
    range = w.range;
    left = w.left;
    right = w.right;
    runs = run ∙ w.runs;
    left_set = w.left_set;
    right_set = w.right_set;
    fewer = omega (arith, w.fewer);
    whole = w.whole ∙ e;
  }

  -- the range that starts first, with what is left of its list
  opened : (r : Span) (rs : List Span) → Spaced 0 (r ∷ rs) → (b : List Span) → Spaced 0 b → Ordered r.lo b → Open r rs b
  opened r rs s b t o = record {
    real = s.1;
    zero_label = s.2;
    left_set = from_next r rs s;
    right_set = t;
    left_from = ordered_from rs (omega (arith, s.1)) (spaced_ordered (suc r.hi) rs s.3);
    right_from = o;
  }

  turned : (r : Span) (a b : List Span) → Open r b a → Open r a b
  turned r a b o = record {
    real = o.real;
    zero_label = o.zero_label;
    left_set = o.right_set;
    right_set = o.left_set;
    left_from = o.right_from;
    right_from = o.left_from;
  }

  gives_left : (x : Span) (xs : List Span) → Spaced 0 (x ∷ xs) → Given (x ∷ xs) []
  gives_left x xs s = given (suc (length xs)) x (x ∷ xs) [] xs [] (unfold union_next in refl) (omega arith) (sym (united_left x xs []))
      (merges (suc (length xs)) x xs [] (omega arith) (opened x xs s [] tt tt))

  gives_right : (y : Span) (ys : List Span) → Spaced 0 (y ∷ ys) → Given [] (y ∷ ys)
  gives_right y ys t = given (suc (length ys)) y [] (y ∷ ys) [] ys (unfold union_next in refl) (omega arith) (sym (united_right [] y ys tt t))
      (merges (suc (length ys)) y [] ys (omega arith) (turned y [] ys (opened y ys t [] tt tt)))

  module _ (x y : Span) (xs ys : List Span) (s : Spaced 0 (x ∷ xs)) (t : Spaced 0 (y ∷ ys)) where
    rounds : ℕ
    rounds = suc (suc (length xs + length ys))

    picks_left : x.lo < y.lo → union_next merge (x ∷ xs) (y ∷ ys) ≡ union_loop merge rounds x xs (y ∷ ys)
    unfolding union_next rounds
    picks_left h = rw (lt-ltb x.lo y.lo h)

    picks_right : y.lo ≤ x.lo → union_next merge (x ∷ xs) (y ∷ ys) ≡ union_loop merge rounds y (x ∷ xs) ys
    unfolding union_next rounds
    picks_right h = rw (le-ltb x.lo y.lo h)

    enough : length xs + length (y ∷ ys) < rounds
    unfolding rounds
    enough = omega arith

    enough_too : length (x ∷ xs) + length ys < rounds
    unfolding rounds
    enough_too = omega arith

    gives_first : Given (x ∷ xs) (y ∷ ys)
    gives_first = elim (dec_lt x.lo y.lo) [
      | yes h ↦ given rounds x (x ∷ xs) (y ∷ ys) xs (y ∷ ys) (picks_left h) (omega arith) (sym (united_left x xs (y ∷ ys)))
          (merges rounds x xs (y ∷ ys) enough (opened x xs s (y ∷ ys) t (later x.lo y ys (omega arith) t)))
      | no h ↦ given rounds y (x ∷ xs) (y ∷ ys) (x ∷ xs) ys (picks_right (omega arith)) (omega arith) (sym (united_right (x ∷ xs) y ys s t))
          (merges rounds y (x ∷ xs) ys enough_too (turned y (x ∷ xs) ys (opened y ys t (x ∷ xs) s (later y.lo x xs (omega arith) s))))
    ]

  -- all that is given
  first_given : (n : ℕ) (a b : List Span) (g : Given a b) → collect_union merge n g.left g.right ≡ some (united g.left g.right)
      → collect_union merge (suc n) a b ≡ some (united a b)
  unfolding collect_union
  first_given n a b g e = rw (g.runs, e) (ap some g.whole)

  collects : (n : ℕ) (a b : List Span) → length a + length b < n → Spaced 0 a → Spaced 0 b → collect_union merge n a b ≡ some (united a b)
  collects zero a b f s t = absurd (omega arith)
  collects (suc n) [] [] f s t = unfold collect_union in unfold union_next in unfold united in refl
  collects (suc n) (x ∷ xs) [] f s t =
      let g = gives_left x xs s in
      first_given n (x ∷ xs) [] g (collects n g.left g.right (omega (arith, g.fewer)) g.left_set g.right_set)
  collects (suc n) [] (y ∷ ys) f s t =
      let g = gives_right y ys t in
      first_given n [] (y ∷ ys) g (collects n g.left g.right (omega (arith, g.fewer)) g.left_set g.right_set)
  collects (suc n) (x ∷ xs) (y ∷ ys) f s t =
      let g = gives_first x y xs ys s t in
      first_given n (x ∷ xs) (y ∷ ys) g (collects n g.left g.right (omega (arith, g.fewer)) g.left_set g.right_set)

-- UNION: the iterator ends, and what it gives is what `united` says
pub union_is : (a b : List Span) → Spaced 0 a → Spaced 0 b → set_union a b ≡ some (united a b)
unfolding set_union
union_is a b s t = collects range_merge (λ x y h i. refl) (suc (length a + length b)) a b (omega arith) s t

pub inclusive_union_is : (a b : List Span) → Spaced 0 a → Spaced 0 b → inclusive_set_union a b ≡ some (united a b)
unfolding inclusive_set_union
inclusive_union_is a b s t = collects inclusive_merge inclusive_merge_is (suc (length a + length b)) a b (omega arith) s t
