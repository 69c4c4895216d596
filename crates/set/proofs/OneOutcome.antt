-- ONE OUTCOME of each exported function: two outcomes that meet its promise for the same input are equal, the answer and all lent memory.
use Prim.Native.Nat.{ℕ}
use mathlib.Core.Path.{◌≡◌}
use mathlib.Core.List.{List}
use mathlib.Core.Bool.{Bool}
use lib.IntN.{ℤ}
use Rattle.key.proofs.Answers.{one_answer}
use Rattle.outcomes.proofs.Unique.{edit_one, extend_one, list_one}
use Rattle.set.proofs.Held.{held_one}
use Rattle.outcomes.specs.declared.Applied.{Applied}
use Rattle.outcomes.specs.declared.Count.{Count}
use Rattle.outcomes.specs.declared.Order.{Order}
use Rattle.outcomes.specs.declared.Range.{Range}
use Rattle.outcomes.specs.declared.Stretch.{Stretch}
use Rattle.outcomes.specs.declared.Told.{Told}
use Rattle.outcomes.specs.declared.Total.{Total}
use Rattle.set.specs.declared.RangeSet.{RangeSet}
use Rattle.set.specs.Promises.{RangeSetNew, RangeSetIsEmpty, RangeSetLen, RangeSetRangeAt, RangeSetFirst, RangeSetLast, RangeSetGet, RangeSetContains}
use Rattle.set.specs.Promises.{RangeSetOverlaps, RangeSetOverlapping, RangeSetGaps, RangeSetEq, RangeSetCmp, RangeSetInsert, RangeSetRemove}
use Rattle.set.specs.Promises.{RangeSetExtend, RangeSetClear, RangeSetWellFormed, RangeSetIntersection, RangeSetUnion, RangeSetTotal}

pub range_set_new_one : (r t : RangeSet)
    → RangeSetNew r → RangeSetNew t
    → r ≡ t
range_set_new_one r t x y = held_one (one_answer x y)

pub range_set_is_empty_one : (m : RangeSet) (r t : Told)
    → RangeSetIsEmpty m r → RangeSetIsEmpty m t
    → r ≡ t
range_set_is_empty_one m r t x y = one_answer x y

pub range_set_len_one : (m : RangeSet) (r t : Count)
    → RangeSetLen m r → RangeSetLen m t
    → r ≡ t
range_set_len_one m r t x y = one_answer x y

pub range_set_range_at_one : (m : RangeSet) (place : ℕ) (r t : Range)
    → RangeSetRangeAt m place r → RangeSetRangeAt m place t
    → r ≡ t
range_set_range_at_one m place r t x y = one_answer x y

pub range_set_first_one : (m : RangeSet) (r t : Range)
    → RangeSetFirst m r → RangeSetFirst m t
    → r ≡ t
range_set_first_one m r t x y = one_answer x y

pub range_set_last_one : (m : RangeSet) (r t : Range)
    → RangeSetLast m r → RangeSetLast m t
    → r ≡ t
range_set_last_one m r t x y = one_answer x y

pub range_set_get_one : (m : RangeSet) (key : ℤ) (r t : Range)
    → RangeSetGet m key r → RangeSetGet m key t
    → r ≡ t
range_set_get_one m key r t x y = one_answer x y

pub range_set_contains_one : (m : RangeSet) (key : ℤ) (r t : Told)
    → RangeSetContains m key r → RangeSetContains m key t
    → r ≡ t
range_set_contains_one m key r t x y = one_answer x y

pub range_set_overlaps_one : (m : RangeSet) (start : ℤ) (end : ℤ) (r t : Told)
    → RangeSetOverlaps m start end r → RangeSetOverlaps m start end t
    → r ≡ t
range_set_overlaps_one m start end r t x y = one_answer x y

pub range_set_overlapping_one : (m : RangeSet) (start : ℤ) (end : ℤ) (r t : Stretch)
    → RangeSetOverlapping m start end r → RangeSetOverlapping m start end t
    → r ≡ t
range_set_overlapping_one m start end r t x y = one_answer x y

pub range_set_gaps_one : (m : RangeSet) (start : ℤ) (end : ℤ) (outStarts : List ℤ) (outEnds : List ℤ) (outStarts' : List ℤ) (outEnds' : List ℤ) (outStarts'' : List ℤ) (outEnds'' : List ℤ) (r t : Count)
    → RangeSetGaps m start end outStarts outStarts' outEnds outEnds' r → RangeSetGaps m start end outStarts outStarts'' outEnds outEnds'' t
    → (r ≡ t) × (outStarts' ≡ outStarts'') × (outEnds' ≡ outEnds'')
range_set_gaps_one m start end outStarts outEnds outStarts' outEnds' outStarts'' outEnds'' r t x y = list_one x y

pub range_set_eq_one : (a : RangeSet) (b : RangeSet) (r t : Told)
    → RangeSetEq a b r → RangeSetEq a b t
    → r ≡ t
range_set_eq_one a b r t x y = one_answer x y

pub range_set_cmp_one : (a : RangeSet) (b : RangeSet) (r t : Order)
    → RangeSetCmp a b r → RangeSetCmp a b t
    → r ≡ t
range_set_cmp_one a b r t x y = one_answer x y

pub range_set_insert_one : (m : RangeSet) (start : ℤ) (end : ℤ) (m' : RangeSet) (m'' : RangeSet) (r t : ℕ)
    → RangeSetInsert m m' start end r → RangeSetInsert m m'' start end t
    → (r ≡ t) × (m' ≡ m'')
range_set_insert_one m start end m' m'' r t x y = let e = edit_one x y in (e.0, held_one e.1)

pub range_set_remove_one : (m : RangeSet) (start : ℤ) (end : ℤ) (m' : RangeSet) (m'' : RangeSet) (r t : ℕ)
    → RangeSetRemove m m' start end r → RangeSetRemove m m'' start end t
    → (r ≡ t) × (m' ≡ m'')
range_set_remove_one m start end m' m'' r t x y = let e = edit_one x y in (e.0, held_one e.1)

pub range_set_extend_one : (m : RangeSet) (starts : List ℤ) (ends : List ℤ) (m' : RangeSet) (m'' : RangeSet) (r t : Applied)
    → RangeSetExtend m m' starts ends r → RangeSetExtend m m'' starts ends t
    → (r ≡ t) × (m' ≡ m'')
range_set_extend_one m starts ends m' m'' r t x y = let e = extend_one x y in (e.0, held_one e.1)

pub range_set_clear_one : (m : RangeSet) (m' : RangeSet) (m'' : RangeSet)
    → RangeSetClear m m' → RangeSetClear m m''
    → m' ≡ m''
range_set_clear_one m m' m'' x y = held_one (one_answer x y)

pub range_set_well_formed_one : (m : RangeSet) (r t : Bool)
    → RangeSetWellFormed m r → RangeSetWellFormed m t
    → r ≡ t
range_set_well_formed_one m r t x y = one_answer x.0 y.0

pub range_set_intersection_one : (a : RangeSet) (b : RangeSet) (outStarts : List ℤ) (outEnds : List ℤ) (outStarts' : List ℤ) (outEnds' : List ℤ) (outStarts'' : List ℤ) (outEnds'' : List ℤ) (r t : Count)
    → RangeSetIntersection a b outStarts outStarts' outEnds outEnds' r → RangeSetIntersection a b outStarts outStarts'' outEnds outEnds'' t
    → (r ≡ t) × (outStarts' ≡ outStarts'') × (outEnds' ≡ outEnds'')
range_set_intersection_one a b outStarts outEnds outStarts' outEnds' outStarts'' outEnds'' r t x y = list_one x y

pub range_set_union_one : (a : RangeSet) (b : RangeSet) (outStarts : List ℤ) (outEnds : List ℤ) (outStarts' : List ℤ) (outEnds' : List ℤ) (outStarts'' : List ℤ) (outEnds'' : List ℤ) (r t : Count)
    → RangeSetUnion a b outStarts outStarts' outEnds outEnds' r → RangeSetUnion a b outStarts outStarts'' outEnds outEnds'' t
    → (r ≡ t) × (outStarts' ≡ outStarts'') × (outEnds' ≡ outEnds'')
range_set_union_one a b outStarts outEnds outStarts' outEnds' outStarts'' outEnds'' r t x y = list_one x y

pub range_set_total_one : (m : RangeSet) (r t : Total)
    → RangeSetTotal m r → RangeSetTotal m t
    → r ≡ t
range_set_total_one m r t x y = one_answer x y
