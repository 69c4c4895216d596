use native.Mathlib.Omega.{arith}
use Rattle.filling.proofs.Laws.{in_room, then_within}
use Rattle.report_text.proofs.Columns.{number_within}
use Rattle.report_text.specs.ReportText.{seconds_column}
use Rattle.report_text.proofs.put_seconds_column.Goals as goal

pub put-requires : goal.put-requires
put-requires c = let a = number_within (omega arith) (omega (arith, c.ranges.n)) c.put_u64_right-to.ensures in omega arith

pub returns : goal.returns
unfolding seconds_column
returns c = then_within (number_within (omega arith) (omega (arith, c.ranges.n)) c.put_u64_right-to.ensures) (in_room {room = 2} (omega arith) c.put.ensures)
