use native.Mathlib.Omega.{arith}
use mathlib.Core.Path.{refl}
use Rattle.filling.proofs.Laws.{as_within, series_none, series_more}
use Rattle.svg_text.specs.SvgText.{hour_svg}
use Rattle.svg_text.proofs.put_hour_texts.Goals as goal

pub loop-h-init : goal.loop-h-init
loop-h-init c = series_none _ _ _

pub loop-h-preserved : goal.loop-h-preserved
loop-h-preserved c = let l = c.loop-h in as_within refl (omega arith) (series_more (hour_svg c.args.n) l.h l.invariant c.put_hour_text-to.ensures)
