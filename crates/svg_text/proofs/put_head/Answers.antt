use native.Mathlib.Omega.{arith}
use mathlib.Core.Path.{refl}
use Rattle.filling.proofs.Laws.{in_room, then_within, as_within}
use Rattle.svg_text.specs.SvgText.{head_svg}
use Rattle.svg_text.proofs.put_head.Goals as goal

pub returns : goal.returns
unfolding head_svg
returns c = as_within refl (omega arith) (then_within c.fill-ground.ensures (in_room {room = 48} (omega arith) c.put.ensures))
