use native.Mathlib.Omega.{arith}
use mathlib.Core.Path.{refl}
use Rattle.filling.proofs.Laws.{as_within}
use Rattle.svg_text.specs.SvgText.{hour_svg}
use Rattle.svg_text.proofs.put_hour_text.Goals as goal

pub returns : goal.returns
unfolding hour_svg
returns c = as_within refl (omega arith) (rw c.clock_hour-hour.ensures.0 at c.fill.ensures)
