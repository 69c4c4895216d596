-- Document 01's cases of intersect, by computation; and what the relations say at the two ends of the keys.
use Prim.Native.Nat.{◌-◌, ◌^◌}
use mathlib.Core.Path.{◌≡◌, refl}
use lib.IntN.{pos, negsuc}
use Rattle.std.specs.Prelude.{true, false, Ok, Err, Some, None}
use Rattle.answers.specs.declared.Refusal.TheVariants.{EmptyRange}
use Rattle.span.specs.Span.{inside}
use Rattle.span.specs.Operations.{spans_overlap}
use Rattle.key.specs.Rank.{above_least, bit_rank, lesser, greater}
use Rattle.key.specs.Range.{half_open, inclusive}
use Rattle.relations.specs.Relations.{spans_touch, range_contains, ranges_overlap, ranges_touch, ranges_intersect}

-- `unfolding all` opens every definition that a case computes with
unfoldable all : Unit {0}
unfolding above_least bit_rank lesser greater inside spans_overlap spans_touch range_contains ranges_overlap ranges_touch ranges_intersect
all = tt

intersect_shorter : ranges_intersect half_open (pos 0) (pos 5) (pos 0) (pos 3) ≡ Some (record { start = (pos 0); end = (pos 3) })
unfolding all
intersect_shorter = refl

intersect_longer : ranges_intersect half_open (pos 0) (pos 3) (pos 0) (pos 5) ≡ Some (record { start = (pos 0); end = (pos 3) })
unfolding all
intersect_longer = refl

intersect_empty : ranges_intersect half_open (pos 0) (pos 3) (pos 3) (pos 3) ≡ None
unfolding all
intersect_empty = refl

-- the ranges of module 1 that are empty or reversed
touches_empty : ranges_touch half_open (pos 0) (pos 0) (pos 0) (pos 0) ≡ Err EmptyRange
unfolding all
touches_empty = refl

contains_reversed : range_contains inclusive (pos 9) (pos 4) (pos 5) ≡ Err EmptyRange
unfolding all
contains_reversed = refl

-- touching: half-open where one ends where the next starts, inclusive where the next starts one later
touches_half_open : ranges_touch half_open (pos 0) (pos 3) (pos 3) (pos 5) ≡ Ok true
unfolding all
touches_half_open = refl

touches_inclusive : ranges_touch inclusive (pos 1) (pos 3) (pos 4) (pos 6) ≡ Ok true
unfolding all
touches_inclusive = refl

touches_apart : ranges_touch inclusive (pos 1) (pos 3) (pos 5) (pos 6) ≡ Ok false
unfolding all
touches_apart = refl

-- nothing follows the greatest key: a range that ends with it touches none that begins with the least
ends_apart : ranges_touch inclusive (pos 5) (pos (2 ^ 63 - 1)) (negsuc (2 ^ 63 - 1)) (pos 0) ≡ Ok false
unfolding all
ends_apart = refl

greatest_contained : range_contains inclusive (negsuc (2 ^ 63 - 1)) (pos (2 ^ 63 - 1)) (pos (2 ^ 63 - 1)) ≡ Ok true
unfolding all
greatest_contained = refl
