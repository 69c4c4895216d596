-- The struct `RangeMap` as a map.
use Rattle.outcomes.specs.declared.Stored.{Stored}
use Rattle.map.specs.declared.RangeMap.{RangeMap}

-- what a `RangeMap` stores
abbrev pub held : RangeMap → Stored
held m = m.stored
