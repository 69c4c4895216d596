use Prim.Native.Nat.{◌*◌}
use Rattle.filling.specs.Filling.{series, AddsWithin}
use Rattle.graph_text.specs.GraphText.{hour_column}
use Rattle.graph_text.proofs.put_hours.Given as goal

abbrev pub invariant-loop-h : goal.invariant-loop-h
invariant-loop-h l = AddsWithin (4 * l.h) (series (hour_column l.n) l.h) l.initial.out l.at l.out l.to
