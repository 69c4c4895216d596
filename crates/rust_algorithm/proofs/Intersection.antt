-- rangemap's Intersection gives `common`, of both kinds.
use Prim.Native.Nat.{ℕ, zero, suc, ◌+◌, ◌-◌, ◌≤◌, ◌<◌, min, max}
use native.Mathlib.Omega.{arith}
use native.Mathlib.Decide.{dec_lt}
use mathlib.Core.Path.{◌≡◌, refl, ◌∙◌}
use mathlib.Core.List.{List, [], ◌∷◌, ◌++◌}
use mathlib.Core.Option.{Option, some, none}
use lib.Dec.{ltb}
use lib.ListN.{length}
use borrow.Author.Tests.{lt-ltb, le-ltb, le-leb, lt-leb}
use Rattle.span.specs.Span.{Span, keep}
use Rattle.span.specs.Operations.{common}
use Rattle.span.proofs.Walks.{Spaced, meet, common_left, common_right, common_none, common_no}
use Rattle.rust_algorithm.specs.Btree.{if_let}
use Rattle.rust_algorithm.specs.Map.{given_first}
use Rattle.rust_algorithm.specs.InclusiveMap.{final}
use Rattle.rust_algorithm.specs.Operations.{range_intersect, inclusive_intersect, pair_step}
use Rattle.rust_algorithm.specs.Operations.{intersection_next, collect_intersection, set_intersection, inclusive_set_intersection}
use Rattle.rust_algorithm.proofs.InclusiveEdits.{ltb_same}
use Rattle.rust_algorithm.proofs.Union.{from_next}

-- INTERSECT: what two ranges have in common, and what that puts in front of a list
abbrev in_front_of : Option Span → List Span → List Span
in_front_of none rest = rest
in_front_of (some r) rest = r ∷ rest

intersect_meet : (x y : Span) (rest : List Span) → x.label ≡ 0 → meet x y ++ rest ≡ in_front_of (range_intersect x y) rest
unfolding meet keep range_intersect
intersect_meet x y rest l =
    let start = max x.lo y.lo in
    let end = min x.hi y.hi in
    elim (dec_lt start end) [
      | yes p ↦ rw (lt-ltb start end p, lt-leb end start p, l)
      | no p ↦ rw (le-ltb start end (omega arith), le-leb end start (omega arith))
    ]

pub last_intersect : (x y : Span) → 0 < x.hi → 0 < y.hi → inclusive_intersect x y ≡ range_intersect x y
unfolding inclusive_intersect range_intersect
last_intersect x y h i =
    let whole : suc (min (x.hi - 1) (y.hi - 1)) ≡ min x.hi y.hi = omega arith in
    rw whole

-- of two sets, by what the two kinds agree on where no range is empty
module _
    (end_of : Span → ℕ) (intersect : Span → Span → Option Span)
    (first_ends : (x y : Span) → x.lo < x.hi → y.lo < y.hi → ltb (end_of x) (end_of y) ≡ ltb x.hi y.hi)
    (is : (x y : Span) → x.lo < x.hi → y.lo < y.hi → intersect x y ≡ range_intersect x y) where
  -- one call of next: the next range, if there is one, and what is left
  record Given (n : ℕ) (a b : List Span) : Type 0 where
    range : Option Span
    left : List Span
    right : List Span
    runs : intersection_next end_of intersect n a b ≡ some (pair_step range left right)
    left_set : Spaced 0 left
    right_set : Spaced 0 right
    whole : common a b ≡ in_front_of range (common left right)
    fewer : if_let range (λ r. suc (length left + length right)) 0 ≤ length a + length b
    over : if_let range (λ r. []) (common left right) ≡ []

  module _ (n : ℕ) (x y : Span) (xs ys c d : List Span) (s : Spaced 0 (x ∷ xs)) (t : Spaced 0 (y ∷ ys)) (v : Spaced 0 c) (w : Spaced 0 d)
      (run : intersection_next end_of intersect (suc n) (x ∷ xs) (y ∷ ys)
      ≡ if_let (intersect x y) (λ r. some (pair_step (some r) c d)) (intersection_next end_of intersect n c d))
      (whole : common (x ∷ xs) (y ∷ ys) ≡ meet x y ++ common c d) (fewer : suc (length c + length d) ≡ length (x ∷ xs) + length (y ∷ ys)) where
    -- the two have something in common, or what comes after them is asked
    after_one : (z : Option Span) → range_intersect x y ≡ z → Given n c d → Given (suc n) (x ∷ xs) (y ∷ ys)
    after_one (some r) e g = record {
      range = some r;
      left = c;
      right = d;
      runs = run ∙ rw (is x y s.1 t.1, e);
      left_set = v;
      right_set = w;
      whole = whole ∙ intersect_meet x y (common c d) s.2 ∙ rw e;
      fewer = omega arith;
      over = refl;
    }
    after_one none e g = record {
      range = g.range;
      left = g.left;
      right = g.right;
      runs = run ∙ rw (is x y s.1 t.1, e) g.runs;
      left_set = g.left_set;
      right_set = g.right_set;
      whole = whole ∙ intersect_meet x y (common c d) s.2 ∙ rw e g.whole;
      fewer = omega (arith, g.fewer);
      over = g.over;
    }

  pops_left : (n : ℕ) (x y : Span) (xs ys : List Span) → Spaced 0 (x ∷ xs) → Spaced 0 (y ∷ ys) → x.hi < y.hi
      → intersection_next end_of intersect (suc n) (x ∷ xs) (y ∷ ys)
      ≡ if_let (intersect x y) (λ r. some (pair_step (some r) xs (y ∷ ys))) (intersection_next end_of intersect n xs (y ∷ ys))
  unfolding intersection_next
  pops_left n x y xs ys s t h = rw (first_ends x y s.1 t.1, lt-ltb x.hi y.hi h)

  pops_right : (n : ℕ) (x y : Span) (xs ys : List Span) → Spaced 0 (x ∷ xs) → Spaced 0 (y ∷ ys) → y.hi ≤ x.hi
      → intersection_next end_of intersect (suc n) (x ∷ xs) (y ∷ ys)
      ≡ if_let (intersect x y) (λ r. some (pair_step (some r) (x ∷ xs) ys)) (intersection_next end_of intersect n (x ∷ xs) ys)
  unfolding intersection_next
  pops_right n x y xs ys s t h = rw (first_ends x y s.1 t.1, le-ltb x.hi y.hi h)

  gives : (n : ℕ) (a b : List Span) → length a + length b < n → Spaced 0 a → Spaced 0 b → Given n a b
  gives zero a b f s t = absurd (omega arith)
  gives (suc n) [] b f s t = record {
    range = none;
    left = [];
    right = b;
    runs = unfold intersection_next in refl;
    left_set = s;
    right_set = t;
    whole = refl;
    fewer = omega arith;
    over = common_none b;
  }
  gives (suc n) (x ∷ xs) [] f s t = record {
    range = none;
    left = x ∷ xs;
    right = [];
    runs = unfold intersection_next in refl;
    left_set = s;
    right_set = t;
    whole = refl;
    fewer = omega arith;
    over = common_no (x ∷ xs) s;
  }
  gives (suc n) (x ∷ xs) (y ∷ ys) f s t = elim (dec_lt x.hi y.hi) [
    | yes h ↦ let v = from_next x xs s in
        after_one n x y xs ys xs (y ∷ ys) s t v t (pops_left n x y xs ys s t h) (common_left x y xs ys s t (omega arith)) (omega arith)
        (range_intersect x y) refl (gives n xs (y ∷ ys) (omega arith) v t)
    | no h ↦ let w = from_next y ys t in
        after_one n x y xs ys (x ∷ xs) ys s t s w (pops_right n x y xs ys s t (omega arith)) (common_right x y xs ys s t (omega arith)) (omega arith)
        (range_intersect x y) refl (gives n (x ∷ xs) ys (omega arith) s w)
  ]

  -- all that is given
  module _ (n : ℕ) (a b : List Span) where
    step : (z : Option Span) (c d : List Span) → intersection_next end_of intersect (suc (length a + length b)) a b ≡ some (pair_step z c d)
        → collect_intersection end_of intersect (suc n) a b ≡ given_first z (collect_intersection end_of intersect n c d)
    unfolding collect_intersection
    step z c d e = rw e

  collects : (n : ℕ) (a b : List Span) → length a + length b < n → Spaced 0 a → Spaced 0 b → collect_intersection end_of intersect n a b ≡ some (common a b)
  collects zero a b f s t = absurd (omega arith)
  collects (suc n) a b f s t =
      let g = gives (suc (length a + length b)) a b (omega arith) s t in
      go g.range g.left g.right g.runs g.whole g.over g.fewer
      (λ h. collects n g.left g.right h g.left_set g.right_set)
    where
      go : (z : Option Span) (c d : List Span) → intersection_next end_of intersect (suc (length a + length b)) a b ≡ some (pair_step z c d)
          → common a b ≡ in_front_of z (common c d) → if_let z (λ r. []) (common c d) ≡ []
          → if_let z (λ r. suc (length c + length d)) 0 ≤ length a + length b
          → (length c + length d < n → collect_intersection end_of intersect n c d ≡ some (common c d))
          → collect_intersection end_of intersect (suc n) a b ≡ some (common a b)
      go none c d e w o h ih = step n a b none c d e ∙ rw (w, o)
      go (some r) c d e w o h ih = step n a b (some r) c d e ∙ rw (ih (omega arith), w)

-- INTERSECTION: the iterator ends, and what it gives is what `common` says
pub intersection_is : (a b : List Span) → Spaced 0 a → Spaced 0 b → set_intersection a b ≡ some (common a b)
unfolding set_intersection
intersection_is a b s t = collects (λ x. x.hi) range_intersect (λ x y h i. refl) (λ x y h i. refl) (suc (length a + length b)) a b (omega arith) s t

pub inclusive_intersection_is : (a b : List Span) → Spaced 0 a → Spaced 0 b → inclusive_set_intersection a b ≡ some (common a b)
unfolding inclusive_set_intersection
inclusive_intersection_is a b s t =
    collects final inclusive_intersect (λ x y h i. ltb_same (x.hi - 1) (y.hi - 1) x.hi y.hi (omega arith) (omega arith))
    (λ x y h i. last_intersect x y (omega arith) (omega arith))
    (suc (length a + length b)) a b (omega arith) s t
