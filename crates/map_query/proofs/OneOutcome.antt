-- ONE OUTCOME of each exported function: two outcomes that meet its promise for the same input are equal, the answer and all lent memory.
use Prim.Native.Nat.{ℕ}
use mathlib.Core.Path.{◌≡◌}
use mathlib.Core.List.{List}
use lib.IntN.{ℤ}
use Rattle.key.proofs.Answers.{one_answer}
use Rattle.outcomes.proofs.Unique.{list_one}
use Rattle.map.specs.declared.RangeMap.{RangeMap}
use Rattle.outcomes.specs.declared.Count.{Count}
use Rattle.outcomes.specs.declared.Told.{Told}
use Rattle.map_query.specs.Promises.{RangeMapQueryAt, RangeMapQueryAtUnchecked, RangeMapQuery, RangeMapQueryUnchecked}

pub range_map_query_at_one : (a : RangeMap) (b : RangeMap) (start : ℤ) (end : ℤ) (bytes : List ℕ) (key : ℤ) (r t : Told)
    → RangeMapQueryAt a b start end bytes key r → RangeMapQueryAt a b start end bytes key t
    → r ≡ t
range_map_query_at_one a b start end bytes key r t x y = one_answer x y

pub range_map_query_at_unchecked_one : (a : RangeMap) (b : RangeMap) (start : ℤ) (end : ℤ) (bytes : List ℕ) (key : ℤ) (r t : Told)
    → RangeMapQueryAtUnchecked a b start end bytes key r → RangeMapQueryAtUnchecked a b start end bytes key t
    → r ≡ t
range_map_query_at_unchecked_one a b start end bytes key r t x y = one_answer x y

pub range_map_query_one : (a : RangeMap) (b : RangeMap) (start : ℤ) (end : ℤ) (bytes : List ℕ) (outStarts : List ℤ) (outEnds : List ℤ) (outStarts' : List ℤ) (outEnds' : List ℤ) (outStarts'' : List ℤ) (outEnds'' : List ℤ) (r t : Count)
    → RangeMapQuery a b start end bytes outStarts outStarts' outEnds outEnds' r → RangeMapQuery a b start end bytes outStarts outStarts'' outEnds outEnds'' t
    → (r ≡ t) × (outStarts' ≡ outStarts'') × (outEnds' ≡ outEnds'')
range_map_query_one a b start end bytes outStarts outEnds outStarts' outEnds' outStarts'' outEnds'' r t x y = list_one x y

pub range_map_query_unchecked_one : (a : RangeMap) (b : RangeMap) (start : ℤ) (end : ℤ) (bytes : List ℕ) (outStarts : List ℤ) (outEnds : List ℤ) (outStarts' : List ℤ) (outEnds' : List ℤ) (outStarts'' : List ℤ) (outEnds'' : List ℤ) (r t : Count)
    → RangeMapQueryUnchecked a b start end bytes outStarts outStarts' outEnds outEnds' r → RangeMapQueryUnchecked a b start end bytes outStarts outStarts'' outEnds outEnds'' t
    → (r ≡ t) × (outStarts' ≡ outStarts'') × (outEnds' ≡ outEnds'')
range_map_query_unchecked_one a b start end bytes outStarts outEnds outStarts' outEnds' outStarts'' outEnds'' r t x y = list_one x y
