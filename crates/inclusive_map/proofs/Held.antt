-- What a `RangeInclusiveMap` stores is all of it: two that store the same are equal.
use mathlib.Core.Path.{◌≡◌, ap}
use Rattle.outcomes.specs.declared.Stored.{Stored}
use Rattle.inclusive_map.specs.declared.RangeInclusiveMap.{RangeInclusiveMap}
use Rattle.inclusive_map.specs.Map.{held}

abbrev back : Stored → RangeInclusiveMap
back m = record { stored = m }

pub held_one : {a b : RangeInclusiveMap} → held a ≡ held b → a ≡ b
held_one e = ap back e
