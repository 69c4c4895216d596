-- WHICH PROMISE A CALL MEETS, from a struct to the struct that it leaves, and what calls leave of a new struct, for each of the four structs.
-- Insert and remove of a map have two doors.
use Rattle.std.specs.Prelude.{◌⊎◌, List}
use Rattle.map.specs.declared.RangeMap.{RangeMap}
use Rattle.map.specs.Promises.{RangeMapNew, RangeMapInsert, RangeMapRemove, RangeMapClear, RangeMapExtend, RangeMapInsertUnchecked, RangeMapRemoveUnchecked}
use Rattle.map_bytes.specs.Promises.{RangeMapRead}
use Rattle.inclusive_map.specs.declared.RangeInclusiveMap.{RangeInclusiveMap}
use Rattle.inclusive_map.specs.Promises.{RangeInclusiveMapNew, RangeInclusiveMapInsert, RangeInclusiveMapRemove, RangeInclusiveMapClear}
use Rattle.inclusive_map.specs.Promises.{RangeInclusiveMapExtend, RangeInclusiveMapInsertUnchecked, RangeInclusiveMapRemoveUnchecked}
use Rattle.set.specs.declared.RangeSet.{RangeSet}
use Rattle.set.specs.Promises.{RangeSetNew, RangeSetInsert, RangeSetRemove, RangeSetClear, RangeSetExtend}
use Rattle.inclusive_set.specs.declared.RangeInclusiveSet.{RangeInclusiveSet}
use Rattle.inclusive_set.specs.Promises.{RangeInclusiveSetNew, RangeInclusiveSetInsert, RangeInclusiveSetRemove}
use Rattle.inclusive_set.specs.Promises.{RangeInclusiveSetClear, RangeInclusiveSetExtend}
use Rattle.theorems.specs.Calls.{Call, insert_call, remove_call, extend_call, clear_call, read_call, After}
use Rattle.theorems.specs.Calls.{SetCall, set_insert_call, set_remove_call, set_extend_call, set_clear_call}

-- of a half-open map
abbrev pub RangeMapCall : Call → RangeMap → RangeMap → Type 0
RangeMapCall (insert_call s e v r) m m' = RangeMapInsert m m' s e v r ⊎ RangeMapInsertUnchecked m m' s e v r
RangeMapCall (remove_call s e r) m m' = RangeMapRemove m m' s e r ⊎ RangeMapRemoveUnchecked m m' s e r
RangeMapCall (extend_call ss es vs t) m m' = RangeMapExtend m m' ss es vs t
RangeMapCall clear_call m m' = RangeMapClear m m'
RangeMapCall (read_call bs r) m m' = RangeMapRead m m' bs r

-- what calls leave of a new half-open map
abbrev pub RangeMapAfter : List Call → RangeMap → Type 0
RangeMapAfter = After RangeMapNew RangeMapCall

-- of an inclusive map, which is never read from bytes
abbrev pub RangeInclusiveMapCall : Call → RangeInclusiveMap → RangeInclusiveMap → Type 0
RangeInclusiveMapCall (insert_call s e v r) m m' = RangeInclusiveMapInsert m m' s e v r ⊎ RangeInclusiveMapInsertUnchecked m m' s e v r
RangeInclusiveMapCall (remove_call s e r) m m' = RangeInclusiveMapRemove m m' s e r ⊎ RangeInclusiveMapRemoveUnchecked m m' s e r
RangeInclusiveMapCall (extend_call ss es vs t) m m' = RangeInclusiveMapExtend m m' ss es vs t
RangeInclusiveMapCall clear_call m m' = RangeInclusiveMapClear m m'
RangeInclusiveMapCall (read_call bs r) m m' = ⊥

-- what calls leave of a new inclusive map
abbrev pub RangeInclusiveMapAfter : List Call → RangeInclusiveMap → Type 0
RangeInclusiveMapAfter = After RangeInclusiveMapNew RangeInclusiveMapCall

-- of a set of half-open ranges
abbrev pub RangeSetCall : SetCall → RangeSet → RangeSet → Type 0
RangeSetCall (set_insert_call s e r) m m' = RangeSetInsert m m' s e r
RangeSetCall (set_remove_call s e r) m m' = RangeSetRemove m m' s e r
RangeSetCall (set_extend_call ss es t) m m' = RangeSetExtend m m' ss es t
RangeSetCall set_clear_call m m' = RangeSetClear m m'

-- what calls leave of a new set of half-open ranges
abbrev pub RangeSetAfter : List SetCall → RangeSet → Type 0
RangeSetAfter = After RangeSetNew RangeSetCall

-- of a set of inclusive ranges
abbrev pub RangeInclusiveSetCall : SetCall → RangeInclusiveSet → RangeInclusiveSet → Type 0
RangeInclusiveSetCall (set_insert_call s e r) m m' = RangeInclusiveSetInsert m m' s e r
RangeInclusiveSetCall (set_remove_call s e r) m m' = RangeInclusiveSetRemove m m' s e r
RangeInclusiveSetCall (set_extend_call ss es t) m m' = RangeInclusiveSetExtend m m' ss es t
RangeInclusiveSetCall set_clear_call m m' = RangeInclusiveSetClear m m'

-- what calls leave of a new set of inclusive ranges
abbrev pub RangeInclusiveSetAfter : List SetCall → RangeInclusiveSet → Type 0
RangeInclusiveSetAfter = After RangeInclusiveSetNew RangeInclusiveSetCall
