-- The ranges of a map.
use Rattle.std.specs.Prelude.{List}
use Rattle.span.specs.Span.{Span}
use Rattle.key.specs.Range.{half_open}
use Rattle.outcomes.specs.Stored.{ranges}
use Rattle.outcomes.specs.declared.Stored.{Stored}

abbrev pub spans_of : Stored → List Span
spans_of m = ranges half_open m
