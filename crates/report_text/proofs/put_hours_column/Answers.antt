use native.Mathlib.Omega.{arith}
use Rattle.filling.proofs.Laws.{in_room, then_within}
use Rattle.report_text.specs.ReportText.{hours_column}
use Rattle.report_text.proofs.put_hours_column.Goals as goal

pub returns : goal.returns
unfolding hours_column
returns c = then_within (then_within (in_room {room = 2} (omega arith) c.put-hours.ensures) c.put_hours-to.ensures) (in_room {room = 3} (omega arith) c.put.ensures)
