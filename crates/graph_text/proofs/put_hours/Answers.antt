use native.Mathlib.Omega.{arith}
use mathlib.Core.Path.{refl}
use Rattle.filling.proofs.Laws.{as_within, series_none, series_more}
use Rattle.graph_text.specs.GraphText.{hour_column}
use Rattle.graph_text.proofs.put_hours.Goals as goal

pub loop-h-init : goal.loop-h-init
loop-h-init c = series_none _ _ _

pub loop-h-preserved : goal.loop-h-preserved
loop-h-preserved c = let l = c.loop-h in as_within refl (omega arith) (series_more (hour_column c.args.n) l.h l.invariant c.put_hour-to.ensures)
