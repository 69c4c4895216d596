-- ONE OUTCOME of each exported function: two outcomes that meet its promise for the same input are equal, the answer and all lent memory.
use Prim.Native.Nat.{ℕ}
use mathlib.Core.Path.{◌≡◌}
use mathlib.Core.List.{List}
use mathlib.Core.Bool.{Bool}
use lib.IntN.{ℤ}
use Rattle.key.proofs.Answers.{one_answer}
use Rattle.outcomes.proofs.Unique.{edit_one, extend_one, list_one}
use Rattle.map.proofs.Held.{held_one}
use Rattle.map.specs.declared.RangeMap.{RangeMap}
use Rattle.outcomes.specs.declared.Applied.{Applied}
use Rattle.outcomes.specs.declared.Count.{Count}
use Rattle.outcomes.specs.declared.Order.{Order}
use Rattle.outcomes.specs.declared.Range.{Range}
use Rattle.outcomes.specs.declared.Stretch.{Stretch}
use Rattle.outcomes.specs.declared.Told.{Told}
use Rattle.map.specs.Promises.{RangeMapNew, RangeMapIsEmpty, RangeMapLen, RangeMapRangeAt, RangeMapFirstRangeValue, RangeMapLastRangeValue}
use Rattle.map.specs.Promises.{RangeMapGetKeyValue, RangeMapContainsKey, RangeMapOverlaps, RangeMapOverlapping, RangeMapGaps, RangeMapEq, RangeMapCmp}
use Rattle.map.specs.Promises.{RangeMapInsert, RangeMapRemove, RangeMapClear, RangeMapExtend, RangeMapWellFormed, RangeMapGetKeyValueUnchecked}
use Rattle.map.specs.Promises.{RangeMapGapsUnchecked, RangeMapInsertUnchecked, RangeMapRemoveUnchecked}

pub range_map_new_one : (r t : RangeMap)
    → RangeMapNew r → RangeMapNew t
    → r ≡ t
range_map_new_one r t x y = held_one (one_answer x y)

pub range_map_is_empty_one : (m : RangeMap) (r t : Told)
    → RangeMapIsEmpty m r → RangeMapIsEmpty m t
    → r ≡ t
range_map_is_empty_one m r t x y = one_answer x y

pub range_map_len_one : (m : RangeMap) (r t : Count)
    → RangeMapLen m r → RangeMapLen m t
    → r ≡ t
range_map_len_one m r t x y = one_answer x y

pub range_map_range_at_one : (m : RangeMap) (place : ℕ) (r t : Range)
    → RangeMapRangeAt m place r → RangeMapRangeAt m place t
    → r ≡ t
range_map_range_at_one m place r t x y = one_answer x y

pub range_map_first_range_value_one : (m : RangeMap) (r t : Range)
    → RangeMapFirstRangeValue m r → RangeMapFirstRangeValue m t
    → r ≡ t
range_map_first_range_value_one m r t x y = one_answer x y

pub range_map_last_range_value_one : (m : RangeMap) (r t : Range)
    → RangeMapLastRangeValue m r → RangeMapLastRangeValue m t
    → r ≡ t
range_map_last_range_value_one m r t x y = one_answer x y

pub range_map_get_key_value_one : (m : RangeMap) (key : ℤ) (r t : Range)
    → RangeMapGetKeyValue m key r → RangeMapGetKeyValue m key t
    → r ≡ t
range_map_get_key_value_one m key r t x y = one_answer x y

pub range_map_contains_key_one : (m : RangeMap) (key : ℤ) (r t : Told)
    → RangeMapContainsKey m key r → RangeMapContainsKey m key t
    → r ≡ t
range_map_contains_key_one m key r t x y = one_answer x y

pub range_map_overlaps_one : (m : RangeMap) (start : ℤ) (end : ℤ) (r t : Told)
    → RangeMapOverlaps m start end r → RangeMapOverlaps m start end t
    → r ≡ t
range_map_overlaps_one m start end r t x y = one_answer x y

pub range_map_overlapping_one : (m : RangeMap) (start : ℤ) (end : ℤ) (r t : Stretch)
    → RangeMapOverlapping m start end r → RangeMapOverlapping m start end t
    → r ≡ t
range_map_overlapping_one m start end r t x y = one_answer x y

pub range_map_gaps_one : (m : RangeMap) (start : ℤ) (end : ℤ) (outStarts : List ℤ) (outEnds : List ℤ) (outStarts' : List ℤ) (outEnds' : List ℤ) (outStarts'' : List ℤ) (outEnds'' : List ℤ) (r t : Count)
    → RangeMapGaps m start end outStarts outStarts' outEnds outEnds' r → RangeMapGaps m start end outStarts outStarts'' outEnds outEnds'' t
    → (r ≡ t) × (outStarts' ≡ outStarts'') × (outEnds' ≡ outEnds'')
range_map_gaps_one m start end outStarts outEnds outStarts' outEnds' outStarts'' outEnds'' r t x y = list_one x y

pub range_map_eq_one : (a : RangeMap) (b : RangeMap) (r t : Told)
    → RangeMapEq a b r → RangeMapEq a b t
    → r ≡ t
range_map_eq_one a b r t x y = one_answer x y

pub range_map_cmp_one : (a : RangeMap) (b : RangeMap) (r t : Order)
    → RangeMapCmp a b r → RangeMapCmp a b t
    → r ≡ t
range_map_cmp_one a b r t x y = one_answer x y

pub range_map_insert_one : (m : RangeMap) (start : ℤ) (end : ℤ) (value : ℕ) (m' : RangeMap) (m'' : RangeMap) (r t : ℕ)
    → RangeMapInsert m m' start end value r → RangeMapInsert m m'' start end value t
    → (r ≡ t) × (m' ≡ m'')
range_map_insert_one m start end value m' m'' r t x y = let e = edit_one x y in (e.0, held_one e.1)

pub range_map_remove_one : (m : RangeMap) (start : ℤ) (end : ℤ) (m' : RangeMap) (m'' : RangeMap) (r t : ℕ)
    → RangeMapRemove m m' start end r → RangeMapRemove m m'' start end t
    → (r ≡ t) × (m' ≡ m'')
range_map_remove_one m start end m' m'' r t x y = let e = edit_one x y in (e.0, held_one e.1)

pub range_map_clear_one : (m : RangeMap) (m' : RangeMap) (m'' : RangeMap)
    → RangeMapClear m m' → RangeMapClear m m''
    → m' ≡ m''
range_map_clear_one m m' m'' x y = held_one (one_answer x y)

pub range_map_extend_one : (m : RangeMap) (starts : List ℤ) (ends : List ℤ) (values : List ℕ) (m' : RangeMap) (m'' : RangeMap) (r t : Applied)
    → RangeMapExtend m m' starts ends values r → RangeMapExtend m m'' starts ends values t
    → (r ≡ t) × (m' ≡ m'')
range_map_extend_one m starts ends values m' m'' r t x y = let e = extend_one x y in (e.0, held_one e.1)

pub range_map_well_formed_one : (m : RangeMap) (r t : Bool)
    → RangeMapWellFormed m r → RangeMapWellFormed m t
    → r ≡ t
range_map_well_formed_one m r t x y = one_answer x.0 y.0

pub range_map_get_key_value_unchecked_one : (m : RangeMap) (key : ℤ) (r t : Range)
    → RangeMapGetKeyValueUnchecked m key r → RangeMapGetKeyValueUnchecked m key t
    → r ≡ t
range_map_get_key_value_unchecked_one m key r t x y = one_answer x y

pub range_map_gaps_unchecked_one : (m : RangeMap) (start : ℤ) (end : ℤ) (outStarts : List ℤ) (outEnds : List ℤ) (outStarts' : List ℤ) (outEnds' : List ℤ) (outStarts'' : List ℤ) (outEnds'' : List ℤ) (r t : Count)
    → RangeMapGapsUnchecked m start end outStarts outStarts' outEnds outEnds' r → RangeMapGapsUnchecked m start end outStarts outStarts'' outEnds outEnds'' t
    → (r ≡ t) × (outStarts' ≡ outStarts'') × (outEnds' ≡ outEnds'')
range_map_gaps_unchecked_one m start end outStarts outEnds outStarts' outEnds' outStarts'' outEnds'' r t x y = list_one x y

pub range_map_insert_unchecked_one : (m : RangeMap) (start : ℤ) (end : ℤ) (value : ℕ) (m' : RangeMap) (m'' : RangeMap) (r t : ℕ)
    → RangeMapInsertUnchecked m m' start end value r → RangeMapInsertUnchecked m m'' start end value t
    → (r ≡ t) × (m' ≡ m'')
range_map_insert_unchecked_one m start end value m' m'' r t x y = let e = edit_one x y in (e.0, held_one e.1)

pub range_map_remove_unchecked_one : (m : RangeMap) (start : ℤ) (end : ℤ) (m' : RangeMap) (m'' : RangeMap) (r t : ℕ)
    → RangeMapRemoveUnchecked m m' start end r → RangeMapRemoveUnchecked m m'' start end t
    → (r ≡ t) × (m' ≡ m'')
range_map_remove_unchecked_one m start end m' m'' r t x y = let e = edit_one x y in (e.0, held_one e.1)
