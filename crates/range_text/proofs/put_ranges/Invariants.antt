use Prim.Native.Nat.{◌*◌}
use Rattle.outcomes.specs.Stored.{stored}
use Rattle.filling.specs.Filling.{AddsWithin}
use Rattle.range_text.specs.RangeText.{ranges_text}
use Rattle.range_text.specs.InnerRoom.{range_line_room}
use Rattle.range_text.proofs.put_ranges.Given as goal

abbrev pub invariant-loop-i : goal.invariant-loop-i
invariant-loop-i l = AddsWithin (range_line_room * l.i) (ranges_text (stored l.i l.m.starts l.m.ends l.m.values)) l.initial.out 0 l.out l.to
