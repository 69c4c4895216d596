use Prim.Native.Nat.{◌*◌}
use Rattle.filling.specs.Filling.{series, AddsWithin}
use Rattle.report_text.specs.Rows.{row_name, row_of}
use Rattle.report_text.specs.ReportText.{seconds_line}
use Rattle.report_text.specs.InnerRoom.{report_line_room}
use Rattle.report_text.proofs.put_rows.Given as goal

abbrev pub invariant-loop-row : goal.invariant-loop-row
invariant-loop-row l = AddsWithin (report_line_room * l.row) (series (λ j. seconds_line (row_name j) (row_of l.t j)) l.row) l.initial.out l.at l.out l.to
