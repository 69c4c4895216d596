-- ONE OUTCOME of each exported function: two outcomes that meet its promise for the same input are equal, the answer and all lent memory.
use Prim.Native.Nat.{ℕ}
use mathlib.Core.Path.{◌≡◌}
use mathlib.Core.List.{List}
use Rattle.outcomes.proofs.Unique.{edit_one}
use Rattle.byte_form.proofs.Unique.{write_one}
use Rattle.map.proofs.Held.{held_one}
use Rattle.map.specs.declared.RangeMap.{RangeMap}
use Rattle.outcomes.specs.declared.Count.{Count}
use Rattle.map_bytes.specs.Promises.{RangeMapWrite, RangeMapRead}

pub range_map_write_one : (m : RangeMap) (out : List ℕ) (out' : List ℕ) (out'' : List ℕ) (r t : Count)
    → RangeMapWrite m out out' r → RangeMapWrite m out out'' t
    → (r ≡ t) × (out' ≡ out'')
range_map_write_one m out out' out'' r t x y = write_one x y

pub range_map_read_one : (m : RangeMap) (bytes : List ℕ) (m' : RangeMap) (m'' : RangeMap) (r t : ℕ)
    → RangeMapRead m m' bytes r → RangeMapRead m m'' bytes t
    → (r ≡ t) × (m' ≡ m'')
range_map_read_one m bytes m' m'' r t x y = let e = edit_one x y in (e.0, held_one e.1)
