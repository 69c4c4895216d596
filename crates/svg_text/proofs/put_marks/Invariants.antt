use Prim.Native.Nat.{◌*◌}
use Rattle.key.specs.Range.{half_open}
use Rattle.outcomes.specs.Stored.{ranges}
use Rattle.outcomes.specs.Lent.{of_ref}
use Rattle.filling.specs.Filling.{series, AddsWithin}
use Rattle.svg_text.specs.SvgText.{mark_svg}
use Rattle.svg_text.specs.InnerRoom.{mark_room}
use Rattle.svg_text.proofs.put_marks.Given as goal

abbrev pub invariant-loop-q : goal.invariant-loop-q
invariant-loop-q l = AddsWithin (mark_room * l.q) (series (mark_svg (ranges half_open (of_ref l.m)) l.day.start l.row) l.q) l.initial.out l.at l.out l.to
