-- The total of a set.
use Rattle.std.specs.Prelude.{ℕ}
use Rattle.span.specs.Operations.{span_total}
use Rattle.key.specs.Range.{kind_of}
use Rattle.key.specs.declared.RangeKind.{RangeKind}
use Rattle.outcomes.specs.declared.Stored.{Stored}
use Rattle.two_sets.specs.InnerSides.{rows}

-- how many keys its ranges have
abbrev pub rows_total : RangeKind → Stored → ℕ
rows_total kind m = span_total (rows (kind_of kind) m)
