use native.Mathlib.Omega.{arith}
use mathlib.Core.Path.{refl}
use Rattle.filling.proofs.Laws.{as_within}
use Rattle.svg_text.specs.SvgText.{mark_at}
use Rattle.svg_text.proofs.put_one.Goals as goal

pub returns : goal.returns
unfolding mark_at
returns c = as_within refl (omega arith) c.fill.ensures
