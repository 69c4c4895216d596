use native.Mathlib.Omega.{arith}
use mathlib.Core.Path.{refl}
use Rattle.filling.proofs.Laws.{as_within, series_none, series_more}
use Rattle.svg_text.specs.SvgText.{hour_rule}
use Rattle.svg_text.proofs.put_hour_rules.Goals as goal

pub loop-i-init : goal.loop-i-init
loop-i-init c = series_none _ _ _

pub loop-i-preserved : goal.loop-i-preserved
loop-i-preserved c = let l = c.loop-i in as_within refl (omega arith) (series_more hour_rule l.i l.invariant c.put_hour_rule-to.ensures)
