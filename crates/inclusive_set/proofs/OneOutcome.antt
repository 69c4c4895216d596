-- ONE OUTCOME of each exported function: two outcomes that meet its promise for the same input are equal, the answer and all lent memory.
use Prim.Native.Nat.{ℕ}
use mathlib.Core.Path.{◌≡◌}
use mathlib.Core.List.{List}
use mathlib.Core.Bool.{Bool}
use lib.IntN.{ℤ}
use Rattle.key.proofs.Answers.{one_answer}
use Rattle.outcomes.proofs.Unique.{edit_one, extend_one, list_one}
use Rattle.inclusive_set.proofs.Held.{held_one}
use Rattle.inclusive_set.specs.declared.RangeInclusiveSet.{RangeInclusiveSet}
use Rattle.outcomes.specs.declared.Applied.{Applied}
use Rattle.outcomes.specs.declared.Count.{Count}
use Rattle.outcomes.specs.declared.Order.{Order}
use Rattle.outcomes.specs.declared.Range.{Range}
use Rattle.outcomes.specs.declared.Stretch.{Stretch}
use Rattle.outcomes.specs.declared.Told.{Told}
use Rattle.outcomes.specs.declared.Total.{Total}
use Rattle.inclusive_set.specs.Promises.{RangeInclusiveSetNew, RangeInclusiveSetIsEmpty, RangeInclusiveSetLen, RangeInclusiveSetRangeAt}
use Rattle.inclusive_set.specs.Promises.{RangeInclusiveSetFirst, RangeInclusiveSetLast, RangeInclusiveSetGet, RangeInclusiveSetContains}
use Rattle.inclusive_set.specs.Promises.{RangeInclusiveSetOverlaps, RangeInclusiveSetOverlapping, RangeInclusiveSetGaps, RangeInclusiveSetEq}
use Rattle.inclusive_set.specs.Promises.{RangeInclusiveSetCmp, RangeInclusiveSetInsert, RangeInclusiveSetRemove, RangeInclusiveSetExtend}
use Rattle.inclusive_set.specs.Promises.{RangeInclusiveSetClear, RangeInclusiveSetWellFormed, RangeInclusiveSetIntersection, RangeInclusiveSetUnion}
use Rattle.inclusive_set.specs.Promises.{RangeInclusiveSetTotal}

pub range_inclusive_set_new_one : (r t : RangeInclusiveSet)
    → RangeInclusiveSetNew r → RangeInclusiveSetNew t
    → r ≡ t
range_inclusive_set_new_one r t x y = held_one (one_answer x y)

pub range_inclusive_set_is_empty_one : (m : RangeInclusiveSet) (r t : Told)
    → RangeInclusiveSetIsEmpty m r → RangeInclusiveSetIsEmpty m t
    → r ≡ t
range_inclusive_set_is_empty_one m r t x y = one_answer x y

pub range_inclusive_set_len_one : (m : RangeInclusiveSet) (r t : Count)
    → RangeInclusiveSetLen m r → RangeInclusiveSetLen m t
    → r ≡ t
range_inclusive_set_len_one m r t x y = one_answer x y

pub range_inclusive_set_range_at_one : (m : RangeInclusiveSet) (place : ℕ) (r t : Range)
    → RangeInclusiveSetRangeAt m place r → RangeInclusiveSetRangeAt m place t
    → r ≡ t
range_inclusive_set_range_at_one m place r t x y = one_answer x y

pub range_inclusive_set_first_one : (m : RangeInclusiveSet) (r t : Range)
    → RangeInclusiveSetFirst m r → RangeInclusiveSetFirst m t
    → r ≡ t
range_inclusive_set_first_one m r t x y = one_answer x y

pub range_inclusive_set_last_one : (m : RangeInclusiveSet) (r t : Range)
    → RangeInclusiveSetLast m r → RangeInclusiveSetLast m t
    → r ≡ t
range_inclusive_set_last_one m r t x y = one_answer x y

pub range_inclusive_set_get_one : (m : RangeInclusiveSet) (key : ℤ) (r t : Range)
    → RangeInclusiveSetGet m key r → RangeInclusiveSetGet m key t
    → r ≡ t
range_inclusive_set_get_one m key r t x y = one_answer x y

pub range_inclusive_set_contains_one : (m : RangeInclusiveSet) (key : ℤ) (r t : Told)
    → RangeInclusiveSetContains m key r → RangeInclusiveSetContains m key t
    → r ≡ t
range_inclusive_set_contains_one m key r t x y = one_answer x y

pub range_inclusive_set_overlaps_one : (m : RangeInclusiveSet) (start : ℤ) (end : ℤ) (r t : Told)
    → RangeInclusiveSetOverlaps m start end r → RangeInclusiveSetOverlaps m start end t
    → r ≡ t
range_inclusive_set_overlaps_one m start end r t x y = one_answer x y

pub range_inclusive_set_overlapping_one : (m : RangeInclusiveSet) (start : ℤ) (end : ℤ) (r t : Stretch)
    → RangeInclusiveSetOverlapping m start end r → RangeInclusiveSetOverlapping m start end t
    → r ≡ t
range_inclusive_set_overlapping_one m start end r t x y = one_answer x y

pub range_inclusive_set_gaps_one : (m : RangeInclusiveSet) (start : ℤ) (end : ℤ) (outStarts : List ℤ) (outEnds : List ℤ) (outStarts' : List ℤ) (outEnds' : List ℤ) (outStarts'' : List ℤ) (outEnds'' : List ℤ) (r t : Count)
    → RangeInclusiveSetGaps m start end outStarts outStarts' outEnds outEnds' r → RangeInclusiveSetGaps m start end outStarts outStarts'' outEnds outEnds'' t
    → (r ≡ t) × (outStarts' ≡ outStarts'') × (outEnds' ≡ outEnds'')
range_inclusive_set_gaps_one m start end outStarts outEnds outStarts' outEnds' outStarts'' outEnds'' r t x y = list_one x y

pub range_inclusive_set_eq_one : (a : RangeInclusiveSet) (b : RangeInclusiveSet) (r t : Told)
    → RangeInclusiveSetEq a b r → RangeInclusiveSetEq a b t
    → r ≡ t
range_inclusive_set_eq_one a b r t x y = one_answer x y

pub range_inclusive_set_cmp_one : (a : RangeInclusiveSet) (b : RangeInclusiveSet) (r t : Order)
    → RangeInclusiveSetCmp a b r → RangeInclusiveSetCmp a b t
    → r ≡ t
range_inclusive_set_cmp_one a b r t x y = one_answer x y

pub range_inclusive_set_insert_one : (m : RangeInclusiveSet) (start : ℤ) (end : ℤ) (m' : RangeInclusiveSet) (m'' : RangeInclusiveSet) (r t : ℕ)
    → RangeInclusiveSetInsert m m' start end r → RangeInclusiveSetInsert m m'' start end t
    → (r ≡ t) × (m' ≡ m'')
range_inclusive_set_insert_one m start end m' m'' r t x y = let e = edit_one x y in (e.0, held_one e.1)

pub range_inclusive_set_remove_one : (m : RangeInclusiveSet) (start : ℤ) (end : ℤ) (m' : RangeInclusiveSet) (m'' : RangeInclusiveSet) (r t : ℕ)
    → RangeInclusiveSetRemove m m' start end r → RangeInclusiveSetRemove m m'' start end t
    → (r ≡ t) × (m' ≡ m'')
range_inclusive_set_remove_one m start end m' m'' r t x y = let e = edit_one x y in (e.0, held_one e.1)

pub range_inclusive_set_extend_one : (m : RangeInclusiveSet) (starts : List ℤ) (ends : List ℤ) (m' : RangeInclusiveSet) (m'' : RangeInclusiveSet) (r t : Applied)
    → RangeInclusiveSetExtend m m' starts ends r → RangeInclusiveSetExtend m m'' starts ends t
    → (r ≡ t) × (m' ≡ m'')
range_inclusive_set_extend_one m starts ends m' m'' r t x y = let e = extend_one x y in (e.0, held_one e.1)

pub range_inclusive_set_clear_one : (m : RangeInclusiveSet) (m' : RangeInclusiveSet) (m'' : RangeInclusiveSet)
    → RangeInclusiveSetClear m m' → RangeInclusiveSetClear m m''
    → m' ≡ m''
range_inclusive_set_clear_one m m' m'' x y = held_one (one_answer x y)

pub range_inclusive_set_well_formed_one : (m : RangeInclusiveSet) (r t : Bool)
    → RangeInclusiveSetWellFormed m r → RangeInclusiveSetWellFormed m t
    → r ≡ t
range_inclusive_set_well_formed_one m r t x y = one_answer x.0 y.0

pub range_inclusive_set_intersection_one : (a : RangeInclusiveSet) (b : RangeInclusiveSet) (outStarts : List ℤ) (outEnds : List ℤ) (outStarts' : List ℤ) (outEnds' : List ℤ) (outStarts'' : List ℤ) (outEnds'' : List ℤ) (r t : Count)
    → RangeInclusiveSetIntersection a b outStarts outStarts' outEnds outEnds' r → RangeInclusiveSetIntersection a b outStarts outStarts'' outEnds outEnds'' t
    → (r ≡ t) × (outStarts' ≡ outStarts'') × (outEnds' ≡ outEnds'')
range_inclusive_set_intersection_one a b outStarts outEnds outStarts' outEnds' outStarts'' outEnds'' r t x y = list_one x y

pub range_inclusive_set_union_one : (a : RangeInclusiveSet) (b : RangeInclusiveSet) (outStarts : List ℤ) (outEnds : List ℤ) (outStarts' : List ℤ) (outEnds' : List ℤ) (outStarts'' : List ℤ) (outEnds'' : List ℤ) (r t : Count)
    → RangeInclusiveSetUnion a b outStarts outStarts' outEnds outEnds' r → RangeInclusiveSetUnion a b outStarts outStarts'' outEnds outEnds'' t
    → (r ≡ t) × (outStarts' ≡ outStarts'') × (outEnds' ≡ outEnds'')
range_inclusive_set_union_one a b outStarts outEnds outStarts' outEnds' outStarts'' outEnds'' r t x y = list_one x y

pub range_inclusive_set_total_one : (m : RangeInclusiveSet) (r t : Total)
    → RangeInclusiveSetTotal m r → RangeInclusiveSetTotal m t
    → r ≡ t
range_inclusive_set_total_one m r t x y = one_answer x y
