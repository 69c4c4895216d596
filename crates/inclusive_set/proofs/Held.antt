-- What a `RangeInclusiveSet` stores is all of it: two that store the same are equal.
use mathlib.Core.Path.{◌≡◌, ap}
use Rattle.outcomes.specs.declared.Stored.{Stored}
use Rattle.inclusive_set.specs.declared.RangeInclusiveSet.{RangeInclusiveSet}
use Rattle.inclusive_set.specs.Set.{held}

abbrev back : Stored → RangeInclusiveSet
back m = record { stored = m }

pub held_one : {a b : RangeInclusiveSet} → held a ≡ held b → a ≡ b
held_one e = ap back e
