use native.Mathlib.Omega.{arith}
use mathlib.Core.Path.{refl}
use Rattle.filling.proofs.Laws.{as_within, series_none, series_more}
use Rattle.svg_text.specs.SvgText.{row_rule}
use Rattle.svg_text.proofs.put_row_rules.Goals as goal

pub loop-j-init : goal.loop-j-init
loop-j-init c = series_none _ _ _

pub loop-j-preserved : goal.loop-j-preserved
loop-j-preserved c = let l = c.loop-j in as_within refl (omega arith) (series_more (row_rule c.args.w) l.j l.invariant c.put_row_rule-to.ensures)
