use native.Mathlib.Omega.{arith}
use Rattle.filling.proofs.Laws.{in_room, then_within}
use Rattle.graph_text.specs.GraphText.{total_column}
use Rattle.graph_text.proofs.put_total.Goals as goal

pub returns : goal.returns
unfolding total_column
returns c = then_within c.put_clock_column-to.ensures (in_room {room = 1} (omega arith) c.put_byte.ensures)
