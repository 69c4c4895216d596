-- ONE OUTCOME of each exported function: two outcomes that meet its promise for the same input are equal, the answer and all lent memory.
use mathlib.Core.Path.{◌≡◌}
use lib.IntN.{ℤ}
use Rattle.key.proofs.Answers.{one_answer}
use Rattle.relations.specs.declared.Intersected.{Intersected}
use Rattle.relations.specs.declared.Related.{Related}
use Rattle.relations.specs.Promises.{RangeContains, RangeOverlaps, RangeTouches, RangeIntersect, RangeInclusiveContains, RangeInclusiveOverlaps}
use Rattle.relations.specs.Promises.{RangeInclusiveTouches, RangeInclusiveIntersect}

pub range_contains_one : (start : ℤ) (end : ℤ) (key : ℤ) (r t : Related)
    → RangeContains start end key r → RangeContains start end key t
    → r ≡ t
range_contains_one start end key r t x y = one_answer x y

pub range_overlaps_one : (start : ℤ) (end : ℤ) (otherStart : ℤ) (otherEnd : ℤ) (r t : Related)
    → RangeOverlaps start end otherStart otherEnd r → RangeOverlaps start end otherStart otherEnd t
    → r ≡ t
range_overlaps_one start end otherStart otherEnd r t x y = one_answer x y

pub range_touches_one : (start : ℤ) (end : ℤ) (otherStart : ℤ) (otherEnd : ℤ) (r t : Related)
    → RangeTouches start end otherStart otherEnd r → RangeTouches start end otherStart otherEnd t
    → r ≡ t
range_touches_one start end otherStart otherEnd r t x y = one_answer x y

pub range_intersect_one : (start : ℤ) (end : ℤ) (otherStart : ℤ) (otherEnd : ℤ) (r t : Intersected)
    → RangeIntersect start end otherStart otherEnd r → RangeIntersect start end otherStart otherEnd t
    → r ≡ t
range_intersect_one start end otherStart otherEnd r t x y = one_answer x y

pub range_inclusive_contains_one : (start : ℤ) (end : ℤ) (key : ℤ) (r t : Related)
    → RangeInclusiveContains start end key r → RangeInclusiveContains start end key t
    → r ≡ t
range_inclusive_contains_one start end key r t x y = one_answer x y

pub range_inclusive_overlaps_one : (start : ℤ) (end : ℤ) (otherStart : ℤ) (otherEnd : ℤ) (r t : Related)
    → RangeInclusiveOverlaps start end otherStart otherEnd r → RangeInclusiveOverlaps start end otherStart otherEnd t
    → r ≡ t
range_inclusive_overlaps_one start end otherStart otherEnd r t x y = one_answer x y

pub range_inclusive_touches_one : (start : ℤ) (end : ℤ) (otherStart : ℤ) (otherEnd : ℤ) (r t : Related)
    → RangeInclusiveTouches start end otherStart otherEnd r → RangeInclusiveTouches start end otherStart otherEnd t
    → r ≡ t
range_inclusive_touches_one start end otherStart otherEnd r t x y = one_answer x y

pub range_inclusive_intersect_one : (start : ℤ) (end : ℤ) (otherStart : ℤ) (otherEnd : ℤ) (r t : Intersected)
    → RangeInclusiveIntersect start end otherStart otherEnd r → RangeInclusiveIntersect start end otherStart otherEnd t
    → r ≡ t
range_inclusive_intersect_one start end otherStart otherEnd r t x y = one_answer x y
