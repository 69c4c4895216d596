use native.Mathlib.Omega.{arith}
use mathlib.Core.Path.{refl}
use Rattle.filling.proofs.Laws.{in_room, then_within, as_within}
use Rattle.svg_text.specs.SvgText.{hour_rules}
use Rattle.svg_text.proofs.put_hour_path.Goals as goal

pub returns : goal.returns
unfolding hour_rules
returns c = as_within refl (omega arith) (then_within (then_within (in_room {room = 25} (omega arith) c.put-rules.ensures) c.put_hour_rules-to.ensures) (in_room {room = 4} (omega arith) c.put.ensures))
