-- What a `RangeMap` stores is all of it: two that store the same are equal.
use mathlib.Core.Path.{◌≡◌, ap}
use Rattle.outcomes.specs.declared.Stored.{Stored}
use Rattle.map.specs.declared.RangeMap.{RangeMap}
use Rattle.map.specs.Map.{held}

abbrev back : Stored → RangeMap
back m = record { stored = m }

pub held_one : {a b : RangeMap} → held a ≡ held b → a ≡ b
held_one e = ap back e
