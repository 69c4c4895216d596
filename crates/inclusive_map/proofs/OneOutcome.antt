-- ONE OUTCOME of each exported function: two outcomes that meet its promise for the same input are equal, the answer and all lent memory.
use Prim.Native.Nat.{ℕ}
use mathlib.Core.Path.{◌≡◌}
use mathlib.Core.List.{List}
use mathlib.Core.Bool.{Bool}
use lib.IntN.{ℤ}
use Rattle.key.proofs.Answers.{one_answer}
use Rattle.outcomes.proofs.Unique.{edit_one, extend_one, list_one}
use Rattle.inclusive_map.proofs.Held.{held_one}
use Rattle.inclusive_map.specs.declared.RangeInclusiveMap.{RangeInclusiveMap}
use Rattle.outcomes.specs.declared.Applied.{Applied}
use Rattle.outcomes.specs.declared.Count.{Count}
use Rattle.outcomes.specs.declared.Order.{Order}
use Rattle.outcomes.specs.declared.Range.{Range}
use Rattle.outcomes.specs.declared.Stretch.{Stretch}
use Rattle.outcomes.specs.declared.Told.{Told}
use Rattle.inclusive_map.specs.Promises.{RangeInclusiveMapNew, RangeInclusiveMapIsEmpty, RangeInclusiveMapLen, RangeInclusiveMapRangeAt}
use Rattle.inclusive_map.specs.Promises.{RangeInclusiveMapFirstRangeValue, RangeInclusiveMapLastRangeValue, RangeInclusiveMapGetKeyValue}
use Rattle.inclusive_map.specs.Promises.{RangeInclusiveMapContainsKey, RangeInclusiveMapOverlaps, RangeInclusiveMapOverlapping, RangeInclusiveMapGaps}
use Rattle.inclusive_map.specs.Promises.{RangeInclusiveMapEq, RangeInclusiveMapCmp, RangeInclusiveMapInsert, RangeInclusiveMapRemove}
use Rattle.inclusive_map.specs.Promises.{RangeInclusiveMapClear, RangeInclusiveMapExtend, RangeInclusiveMapWellFormed}
use Rattle.inclusive_map.specs.Promises.{RangeInclusiveMapGetKeyValueUnchecked, RangeInclusiveMapGapsUnchecked, RangeInclusiveMapInsertUnchecked}
use Rattle.inclusive_map.specs.Promises.{RangeInclusiveMapRemoveUnchecked}

pub range_inclusive_map_new_one : (r t : RangeInclusiveMap)
    → RangeInclusiveMapNew r → RangeInclusiveMapNew t
    → r ≡ t
range_inclusive_map_new_one r t x y = held_one (one_answer x y)

pub range_inclusive_map_is_empty_one : (m : RangeInclusiveMap) (r t : Told)
    → RangeInclusiveMapIsEmpty m r → RangeInclusiveMapIsEmpty m t
    → r ≡ t
range_inclusive_map_is_empty_one m r t x y = one_answer x y

pub range_inclusive_map_len_one : (m : RangeInclusiveMap) (r t : Count)
    → RangeInclusiveMapLen m r → RangeInclusiveMapLen m t
    → r ≡ t
range_inclusive_map_len_one m r t x y = one_answer x y

pub range_inclusive_map_range_at_one : (m : RangeInclusiveMap) (place : ℕ) (r t : Range)
    → RangeInclusiveMapRangeAt m place r → RangeInclusiveMapRangeAt m place t
    → r ≡ t
range_inclusive_map_range_at_one m place r t x y = one_answer x y

pub range_inclusive_map_first_range_value_one : (m : RangeInclusiveMap) (r t : Range)
    → RangeInclusiveMapFirstRangeValue m r → RangeInclusiveMapFirstRangeValue m t
    → r ≡ t
range_inclusive_map_first_range_value_one m r t x y = one_answer x y

pub range_inclusive_map_last_range_value_one : (m : RangeInclusiveMap) (r t : Range)
    → RangeInclusiveMapLastRangeValue m r → RangeInclusiveMapLastRangeValue m t
    → r ≡ t
range_inclusive_map_last_range_value_one m r t x y = one_answer x y

pub range_inclusive_map_get_key_value_one : (m : RangeInclusiveMap) (key : ℤ) (r t : Range)
    → RangeInclusiveMapGetKeyValue m key r → RangeInclusiveMapGetKeyValue m key t
    → r ≡ t
range_inclusive_map_get_key_value_one m key r t x y = one_answer x y

pub range_inclusive_map_contains_key_one : (m : RangeInclusiveMap) (key : ℤ) (r t : Told)
    → RangeInclusiveMapContainsKey m key r → RangeInclusiveMapContainsKey m key t
    → r ≡ t
range_inclusive_map_contains_key_one m key r t x y = one_answer x y

pub range_inclusive_map_overlaps_one : (m : RangeInclusiveMap) (start : ℤ) (end : ℤ) (r t : Told)
    → RangeInclusiveMapOverlaps m start end r → RangeInclusiveMapOverlaps m start end t
    → r ≡ t
range_inclusive_map_overlaps_one m start end r t x y = one_answer x y

pub range_inclusive_map_overlapping_one : (m : RangeInclusiveMap) (start : ℤ) (end : ℤ) (r t : Stretch)
    → RangeInclusiveMapOverlapping m start end r → RangeInclusiveMapOverlapping m start end t
    → r ≡ t
range_inclusive_map_overlapping_one m start end r t x y = one_answer x y

pub range_inclusive_map_gaps_one : (m : RangeInclusiveMap) (start : ℤ) (end : ℤ) (outStarts : List ℤ) (outEnds : List ℤ) (outStarts' : List ℤ) (outEnds' : List ℤ) (outStarts'' : List ℤ) (outEnds'' : List ℤ) (r t : Count)
    → RangeInclusiveMapGaps m start end outStarts outStarts' outEnds outEnds' r → RangeInclusiveMapGaps m start end outStarts outStarts'' outEnds outEnds'' t
    → (r ≡ t) × (outStarts' ≡ outStarts'') × (outEnds' ≡ outEnds'')
range_inclusive_map_gaps_one m start end outStarts outEnds outStarts' outEnds' outStarts'' outEnds'' r t x y = list_one x y

pub range_inclusive_map_eq_one : (a : RangeInclusiveMap) (b : RangeInclusiveMap) (r t : Told)
    → RangeInclusiveMapEq a b r → RangeInclusiveMapEq a b t
    → r ≡ t
range_inclusive_map_eq_one a b r t x y = one_answer x y

pub range_inclusive_map_cmp_one : (a : RangeInclusiveMap) (b : RangeInclusiveMap) (r t : Order)
    → RangeInclusiveMapCmp a b r → RangeInclusiveMapCmp a b t
    → r ≡ t
range_inclusive_map_cmp_one a b r t x y = one_answer x y

pub range_inclusive_map_insert_one : (m : RangeInclusiveMap) (start : ℤ) (end : ℤ) (value : ℕ) (m' : RangeInclusiveMap) (m'' : RangeInclusiveMap) (r t : ℕ)
    → RangeInclusiveMapInsert m m' start end value r → RangeInclusiveMapInsert m m'' start end value t
    → (r ≡ t) × (m' ≡ m'')
range_inclusive_map_insert_one m start end value m' m'' r t x y = let e = edit_one x y in (e.0, held_one e.1)

pub range_inclusive_map_remove_one : (m : RangeInclusiveMap) (start : ℤ) (end : ℤ) (m' : RangeInclusiveMap) (m'' : RangeInclusiveMap) (r t : ℕ)
    → RangeInclusiveMapRemove m m' start end r → RangeInclusiveMapRemove m m'' start end t
    → (r ≡ t) × (m' ≡ m'')
range_inclusive_map_remove_one m start end m' m'' r t x y = let e = edit_one x y in (e.0, held_one e.1)

pub range_inclusive_map_clear_one : (m : RangeInclusiveMap) (m' : RangeInclusiveMap) (m'' : RangeInclusiveMap)
    → RangeInclusiveMapClear m m' → RangeInclusiveMapClear m m''
    → m' ≡ m''
range_inclusive_map_clear_one m m' m'' x y = held_one (one_answer x y)

pub range_inclusive_map_extend_one : (m : RangeInclusiveMap) (starts : List ℤ) (ends : List ℤ) (values : List ℕ) (m' : RangeInclusiveMap) (m'' : RangeInclusiveMap) (r t : Applied)
    → RangeInclusiveMapExtend m m' starts ends values r → RangeInclusiveMapExtend m m'' starts ends values t
    → (r ≡ t) × (m' ≡ m'')
range_inclusive_map_extend_one m starts ends values m' m'' r t x y = let e = extend_one x y in (e.0, held_one e.1)

pub range_inclusive_map_well_formed_one : (m : RangeInclusiveMap) (r t : Bool)
    → RangeInclusiveMapWellFormed m r → RangeInclusiveMapWellFormed m t
    → r ≡ t
range_inclusive_map_well_formed_one m r t x y = one_answer x.0 y.0

pub range_inclusive_map_get_key_value_unchecked_one : (m : RangeInclusiveMap) (key : ℤ) (r t : Range)
    → RangeInclusiveMapGetKeyValueUnchecked m key r → RangeInclusiveMapGetKeyValueUnchecked m key t
    → r ≡ t
range_inclusive_map_get_key_value_unchecked_one m key r t x y = one_answer x y

pub range_inclusive_map_gaps_unchecked_one : (m : RangeInclusiveMap) (start : ℤ) (end : ℤ) (outStarts : List ℤ) (outEnds : List ℤ) (outStarts' : List ℤ) (outEnds' : List ℤ) (outStarts'' : List ℤ) (outEnds'' : List ℤ) (r t : Count)
    → RangeInclusiveMapGapsUnchecked m start end outStarts outStarts' outEnds outEnds' r → RangeInclusiveMapGapsUnchecked m start end outStarts outStarts'' outEnds outEnds'' t
    → (r ≡ t) × (outStarts' ≡ outStarts'') × (outEnds' ≡ outEnds'')
range_inclusive_map_gaps_unchecked_one m start end outStarts outEnds outStarts' outEnds' outStarts'' outEnds'' r t x y = list_one x y

pub range_inclusive_map_insert_unchecked_one : (m : RangeInclusiveMap) (start : ℤ) (end : ℤ) (value : ℕ) (m' : RangeInclusiveMap) (m'' : RangeInclusiveMap) (r t : ℕ)
    → RangeInclusiveMapInsertUnchecked m m' start end value r → RangeInclusiveMapInsertUnchecked m m'' start end value t
    → (r ≡ t) × (m' ≡ m'')
range_inclusive_map_insert_unchecked_one m start end value m' m'' r t x y = let e = edit_one x y in (e.0, held_one e.1)

pub range_inclusive_map_remove_unchecked_one : (m : RangeInclusiveMap) (start : ℤ) (end : ℤ) (m' : RangeInclusiveMap) (m'' : RangeInclusiveMap) (r t : ℕ)
    → RangeInclusiveMapRemoveUnchecked m m' start end r → RangeInclusiveMapRemoveUnchecked m m'' start end t
    → (r ≡ t) × (m' ≡ m'')
range_inclusive_map_remove_unchecked_one m start end m' m'' r t x y = let e = edit_one x y in (e.0, held_one e.1)
