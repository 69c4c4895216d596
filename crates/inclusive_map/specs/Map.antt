-- The struct `RangeInclusiveMap` as a map.
use Rattle.outcomes.specs.declared.Stored.{Stored}
use Rattle.inclusive_map.specs.declared.RangeInclusiveMap.{RangeInclusiveMap}

-- what a `RangeInclusiveMap` stores
abbrev pub held : RangeInclusiveMap → Stored
held m = m.stored
