-- FROM THE CHECK: where `well_formed` answers yes, a struct is as the theorems about lent maps and sets want it. So they ask nothing that no promise gives.
use mathlib.Core.Path.{◌≡◌, refl}
use mathlib.Core.Bool.{true}
use Rattle.key.specs.Range.{half_open, inclusive}
use Rattle.outcomes.specs.Sets.{plain}
use Rattle.one_map.specs.Events.{Proper}
use Rattle.map.specs.declared.RangeMap.{RangeMap}
use Rattle.map.specs.Map as Map
use Rattle.map.specs.Promises.{RangeMapWellFormed}
use Rattle.inclusive_map.specs.declared.RangeInclusiveMap.{RangeInclusiveMap}
use Rattle.inclusive_map.specs.Map as InclusiveMap
use Rattle.inclusive_map.specs.Promises.{RangeInclusiveMapWellFormed}
use Rattle.set.specs.declared.RangeSet.{RangeSet}
use Rattle.set.specs.Set as Set
use Rattle.set.specs.Promises.{RangeSetWellFormed}
use Rattle.inclusive_set.specs.declared.RangeInclusiveSet.{RangeInclusiveSet}
use Rattle.inclusive_set.specs.Set as InclusiveSet
use Rattle.inclusive_set.specs.Promises.{RangeInclusiveSetWellFormed}

-- a half-open map
pub range_map_formed : (m : RangeMap) → RangeMapWellFormed m true → Proper half_open (Map.held m)
range_map_formed m q = let s = q.1 refl in record { sound = s.0; all_places = s.1 }

-- an inclusive map
pub range_inclusive_map_formed : (m : RangeInclusiveMap) → RangeInclusiveMapWellFormed m true → Proper inclusive (InclusiveMap.held m)
range_inclusive_map_formed m q = let s = q.1 refl in record { sound = s.0; all_places = s.1 }

-- a set of half-open ranges
pub range_set_formed : (m : RangeSet) → RangeSetWellFormed m true → Proper half_open (Set.held m) × (plain (Set.held m) ≡ true)
range_set_formed m q = let s = q.1 refl in (record { sound = s.0.sound; all_places = s.1 }, s.0.plain_too)

-- a set of inclusive ranges
pub range_inclusive_set_formed : (m : RangeInclusiveSet) → RangeInclusiveSetWellFormed m true
    → Proper inclusive (InclusiveSet.held m) × (plain (InclusiveSet.held m) ≡ true)
range_inclusive_set_formed m q = let s = q.1 refl in (record { sound = s.0.sound; all_places = s.1 }, s.0.plain_too)
