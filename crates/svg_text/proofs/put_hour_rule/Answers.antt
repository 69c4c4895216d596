use native.Mathlib.Omega.{arith}
use mathlib.Core.Path.{refl}
use Rattle.filling.proofs.Laws.{as_within}
use Rattle.svg_text.specs.SvgText.{hour_rule}
use Rattle.svg_text.proofs.put_hour_rule.Goals as goal

pub returns : goal.returns
unfolding hour_rule
returns c = as_within refl (omega arith) c.fill.ensures
