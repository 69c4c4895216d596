use native.Mathlib.Omega.{arith}
use mathlib.Core.Path.{refl}
use Rattle.filling.proofs.Laws.{in_room, then_within, as_within}
use Rattle.svg_text.specs.SvgText.{foot_svg}
use Rattle.svg_text.proofs.put_foot.Goals as goal

pub returns : goal.returns
unfolding foot_svg
returns c = as_within refl (omega arith) (then_within (then_within c.put_label-total.ensures c.put_total-to.ensures) (in_room {room = 7} (omega arith) c.put.ensures))
