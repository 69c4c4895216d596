use native.Mathlib.Omega.{arith}
use Rattle.filling.proofs.Laws.{in_room, then_within}
use Rattle.report_text.specs.ReportText.{clock_column}
use Rattle.report_text.proofs.put_clock_column.Goals as goal

pub returns : goal.returns
unfolding clock_column
returns c = then_within (in_room {room = 2} (omega arith) c.put-to.ensures) c.put_clock.ensures
