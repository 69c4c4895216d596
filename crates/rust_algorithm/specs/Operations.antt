-- Union and Intersection of rangemap 1.8.0 over two lists of ranges, after its file src/operations.rs, whose lines are cited; and what set.rs and
-- inclusive_set.rs make of them. (MIT or Apache 2.0, by its authors.) A set of the Rust is a map with values (), here with the label 0, and each of its
-- other functions is the map's (set.rs, 75-184). The Rust's text of the two iterators is one for both kinds of range, so it is here.
use Rattle.std.specs.Prelude.{ℕ, zero, suc, ◌+◌, min, max, List, [], ◌∷◌, cond, ltb, leb, length}
use Rattle.std.proofs.Math.Option.{Option, some, none}
use Rattle.span.specs.Span.{Span, span, inside}
use Rattle.rust_algorithm.specs.Btree.{rust_then, if_let}
use Rattle.rust_algorithm.specs.Map.{given_first, map_extend}
use Rattle.rust_algorithm.specs.InclusiveMap.{final, closed_range, inclusive_range_contains, inclusive_extend}

-- 40-52: merge, the range that it leaves, and none where it answers false
unfoldable pub range_merge : Span → Span → Option Span
range_merge x y = cond (inside x.lo x.hi y.lo) (some (cond (ltb x.hi y.hi) (span x.lo y.hi x.label) x)) none

-- 54-66: the same of inclusive ranges
unfoldable pub inclusive_merge : Span → Span → Option Span
inclusive_merge x y = cond (inclusive_range_contains x.lo (final x) y.lo)
    (some (cond (ltb (final x) (final y)) (closed_range x.lo (final y) x.label) x))
    none

-- 74-85: intersect
unfoldable pub range_intersect : Span → Span → Option Span
range_intersect x y =
    let start = max x.lo y.lo in
    let end = min x.hi y.hi in
    cond (leb end start) none (some (span start end x.label))

-- 87-98: the same of inclusive ranges
unfoldable pub inclusive_intersect : Span → Span → Option Span
inclusive_intersect x y =
    let start = max x.lo y.lo in
    let end = min (final x) (final y) in
    cond (ltb end start) none (some (closed_range start end x.label))

-- what an iterator over two lists answers, and what is left of them after it
pub record PairStep : Type 0 where
  pub range : Option Span
  pub left : List Span
  pub right : List Span

abbrev pub pair_step : Option Span → List Span → List Span → PairStep
pair_step r a b = record { range = r; left = a; right = b }

-- what is left of a list after one call of next
abbrev pub after_next : List Span → List Span
after_next [] = []
after_next (x ∷ xs) = xs

module _ (merge : Span → Span → Option Span) where
  -- 162-170: join, with the next range of a list, if there is one
  abbrev pub join : Span → List Span → Option Span
  join r [] = none
  join r (x ∷ xs) = merge r x

  -- 172-177: keep merging ranges as long as we can, for n rounds at most
  unfoldable pub union_loop : ℕ → Span → List Span → List Span → Option PairStep
  union_loop zero r a b = none
  union_loop (suc n) r a b = if_let (join r a) (λ s. union_loop n s (after_next a) b)
      (if_let (join r b) (λ s. union_loop n s a (after_next b)) (some (pair_step (some r) a b)))

  -- 142-180: Union::next
  unfoldable pub union_next : List Span → List Span → Option PairStep
  union_next [] [] = some (pair_step none [] [])
  union_next (x ∷ xs) [] = union_loop (suc (length xs)) x xs []
  union_next [] (y ∷ ys) = union_loop (suc (length ys)) y [] ys
  union_next (x ∷ xs) (y ∷ ys) =
      let n = suc (suc (length xs + length ys)) in
      cond (ltb x.lo y.lo) (union_loop n x xs (y ∷ ys)) (union_loop n y (x ∷ xs) ys)

  -- all that Union gives until it gives None, in n calls at most
  unfoldable pub collect_union : ℕ → List Span → List Span → Option (List Span)
  collect_union zero a b = none
  collect_union (suc n) a b = rust_then (union_next a b) (λ s. given_first s.range (collect_union n s.left s.right))

-- 225-245: Intersection::next, for n rounds at most; end_of is what order_end compares
module _ (end_of : Span → ℕ) (intersect : Span → Span → Option Span) where
  unfoldable pub intersection_next : ℕ → List Span → List Span → Option PairStep
  intersection_next zero a b = none
  intersection_next (suc n) [] b = some (pair_step none [] b)
  intersection_next (suc n) (x ∷ xs) [] = some (pair_step none (x ∷ xs) [])
  intersection_next (suc n) (x ∷ xs) (y ∷ ys) =
      let left = cond (ltb (end_of x) (end_of y)) xs (x ∷ xs) in
      let right = cond (ltb (end_of x) (end_of y)) (y ∷ ys) ys in
      if_let (intersect x y) (λ r. some (pair_step (some r) left right)) (intersection_next n left right)

  -- all that Intersection gives until it gives None, in n calls at most
  unfoldable pub collect_intersection : ℕ → List Span → List Span → Option (List Span)
  collect_intersection zero a b = none
  collect_intersection (suc n) a b =
      rust_then (intersection_next (suc (length a + length b)) a b) (λ s. given_first s.range (collect_intersection n s.left s.right))

-- set.rs, 113-115, and inclusive_set.rs, 203-205: union, collected
unfoldable pub set_union : List Span → List Span → Option (List Span)
set_union a b = collect_union range_merge (suc (length a + length b)) a b

unfoldable pub inclusive_set_union : List Span → List Span → Option (List Span)
inclusive_set_union a b = collect_union inclusive_merge (suc (length a + length b)) a b

-- set.rs, 108-110, and inclusive_set.rs, 208-210: intersection, collected
unfoldable pub set_intersection : List Span → List Span → Option (List Span)
set_intersection a b = collect_intersection (λ x. x.hi) range_intersect (suc (length a + length b)) a b

unfoldable pub inclusive_set_intersection : List Span → List Span → Option (List Span)
inclusive_set_intersection a b = collect_intersection final inclusive_intersect (suc (length a + length b)) a b

-- set.rs, 425-431, 417-423 and 266-286: a | b and a & b collect their ranges into a new set: extend of an empty one
unfoldable pub set_or : List Span → List Span → Option (List Span)
set_or a b = rust_then (set_union a b) (λ xs. map_extend xs [])

unfoldable pub set_and : List Span → List Span → Option (List Span)
set_and a b = rust_then (set_intersection a b) (λ xs. map_extend xs [])

-- inclusive_set.rs, 484-490, 476-482 and 292-312: the same of inclusive sets
module _ (add-one sub-one : ℕ → Option ℕ) where
  unfoldable pub inclusive_set_or : List Span → List Span → Option (List Span)
  inclusive_set_or a b = rust_then (inclusive_set_union a b) (λ xs. inclusive_extend add-one sub-one xs [])

  unfoldable pub inclusive_set_and : List Span → List Span → Option (List Span)
  inclusive_set_and a b = rust_then (inclusive_set_intersection a b) (λ xs. inclusive_extend add-one sub-one xs [])
