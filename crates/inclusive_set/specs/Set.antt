-- The struct `RangeInclusiveSet` as a set.
use Rattle.outcomes.specs.declared.Stored.{Stored}
use Rattle.inclusive_set.specs.declared.RangeInclusiveSet.{RangeInclusiveSet}

-- what a `RangeInclusiveSet` stores
abbrev pub held : RangeInclusiveSet → Stored
held m = m.stored
