use native.Mathlib.Omega.{arith}
use mathlib.Core.Path.{refl}
use Rattle.filling.proofs.Laws.{in_room, then_within, as_within}
use Rattle.svg_text.specs.SvgText.{name_svg}
use Rattle.svg_text.proofs.put_label.Goals as goal

pub returns : goal.returns
unfolding name_svg
returns c = as_within refl (omega arith) (then_within (then_within c.fill-word.ensures (in_room {room = 14} (omega arith) c.put-to.ensures)) (in_room {room = 8} (omega arith) c.put.ensures))
