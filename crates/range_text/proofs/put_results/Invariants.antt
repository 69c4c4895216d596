use Prim.Native.Nat.{◌*◌}
use Rattle.filling.specs.Filling.{AddsWithin}
use Rattle.range_text.specs.RangeText.{result_text}
use Rattle.range_text.specs.InnerRoom.{result_line_room}
use Rattle.range_text.proofs.put_results.Given as goal

abbrev pub invariant-loop-i : goal.invariant-loop-i
invariant-loop-i l = AddsWithin (result_line_room * l.i) (result_text l.starts l.ends l.i) l.initial.out 0 l.out l.to
