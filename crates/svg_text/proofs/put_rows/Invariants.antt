use Prim.Native.Nat.{◌*◌}
use Rattle.key.specs.Range.{half_open}
use Rattle.outcomes.specs.Stored.{ranges}
use Rattle.outcomes.specs.Lent.{of_ref}
use Rattle.filling.specs.Filling.{series, AddsWithin}
use Rattle.svg_text.specs.SvgText.{row_svg}
use Rattle.svg_text.specs.InnerRoom.{row_room}
use Rattle.svg_text.proofs.put_rows.Given as goal

abbrev pub invariant-loop-row : goal.invariant-loop-row
invariant-loop-row l = AddsWithin (row_room * l.row) (series (row_svg (ranges half_open (of_ref l.m)) l.day.start l.day.quarters l.day.totals) l.row) l.initial.out l.at l.out l.to
