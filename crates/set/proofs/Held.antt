-- What a `RangeSet` stores is all of it: two that store the same are equal.
use mathlib.Core.Path.{◌≡◌, ap}
use Rattle.outcomes.specs.declared.Stored.{Stored}
use Rattle.set.specs.declared.RangeSet.{RangeSet}
use Rattle.set.specs.Set.{held}

abbrev back : Stored → RangeSet
back m = record { stored = m }

pub held_one : {a b : RangeSet} → held a ≡ held b → a ≡ b
held_one e = ap back e
