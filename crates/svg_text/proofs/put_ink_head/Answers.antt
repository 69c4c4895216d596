use native.Mathlib.Omega.{arith}
use Rattle.filling.proofs.Laws.{in_room, then_within}
use Rattle.svg_text.specs.SvgText.{ink_svg}
use Rattle.svg_text.proofs.put_ink_head.Goals as goal

pub returns : goal.returns
unfolding ink_svg
returns c = then_within (then_within (in_room {room = 14} (omega arith) c.put-ink.ensures) c.put_ink-to.ensures) (in_room {room = 22} (omega arith) c.put.ensures)
