use native.Mathlib.Omega.{arith}
use mathlib.Core.Path.{refl}
use Rattle.filling.proofs.Laws.{in_room, then_within, as_within}
use Rattle.svg_text.specs.SvgText.{marks_svg}
use Rattle.svg_text.proofs.put_marks_path.Goals as goal

pub returns : goal.returns
unfolding marks_svg
returns c = as_within refl (omega arith) (then_within (then_within c.put_ink_head-marks.ensures c.put_marks-to.ensures) (in_room {room = 4} (omega arith) c.put.ensures))
