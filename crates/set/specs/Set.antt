-- The struct `RangeSet` as a set.
use Rattle.outcomes.specs.declared.Stored.{Stored}
use Rattle.set.specs.declared.RangeSet.{RangeSet}

-- what a `RangeSet` stores
abbrev pub held : RangeSet → Stored
held m = m.stored
