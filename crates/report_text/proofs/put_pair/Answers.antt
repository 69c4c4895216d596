use native.Mathlib.Omega.{arith}
use Rattle.filling.proofs.Laws.{in_room, then_within}
use Rattle.report_text.proofs.Columns.{digits_within}
use Rattle.report_text.specs.Times.{pair_text}
use Rattle.report_text.proofs.put_pair.Goals as goal

pub returns : goal.returns
unfolding pair_text
returns c = then_within (in_room {room = 1} (omega arith) c.put_byte-to.ensures) (digits_within 2 _ c.put_digits.ensures)
