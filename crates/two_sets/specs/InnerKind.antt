-- How far past its end a range reaches, by its kind.
use Rattle.std.specs.Prelude.{ℕ}
use Rattle.key.specs.declared.RangeKind.{RangeKind}

abbrev pub wide : RangeKind → ℕ
wide RangeKind.HalfOpen = 0
wide RangeKind.Inclusive = 1
