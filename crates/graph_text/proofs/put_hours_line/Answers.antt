use native.Mathlib.Omega.{arith}
use mathlib.Core.Path.{refl}
use Rattle.filling.proofs.Laws.{in_room, then_within, as_within}
use Rattle.graph_text.specs.GraphText.{hours_line}
use Rattle.graph_text.proofs.put_hours_line.Goals as goal

pub returns : goal.returns
unfolding hours_line
returns c = as_within refl (omega arith) (then_within (then_within c.put_name_column-first.ensures c.put_hours-to.ensures) (in_room {room = 1} (omega arith) c.put_byte.ensures))
