use native.Mathlib.Omega.{arith}
use mathlib.Core.Path.{refl}
use Rattle.key.specs.Range.{half_open}
use Rattle.outcomes.specs.Stored.{ranges}
use Rattle.outcomes.specs.Lent.{of_ref}
use Rattle.filling.proofs.Laws.{as_within, series_none, series_more}
use Rattle.svg_text.specs.SvgText.{row_svg}
use Rattle.svg_text.proofs.put_rows.Goals as goal

pub loop-row-init : goal.loop-row-init
loop-row-init c = series_none _ _ _

pub loop-row-preserved : goal.loop-row-preserved
loop-row-preserved c =
    let d = c.args.day in
    let l = c.loop-row in
    as_within refl (omega arith) (series_more (row_svg (ranges half_open (of_ref c.args.m.now)) d.start d.quarters d.totals) l.row l.invariant c.put_row-to.ensures)
