use native.Mathlib.Omega.{arith}
use mathlib.Core.Path.{◌≡◌, refl}
use Rattle.filling.proofs.Laws.{as_within, series_none, series_more}
use Rattle.report_text.specs.Rows.{row_count, row_name, row_of}
use Rattle.report_text.specs.ReportText.{seconds_line, row_lines}
use Rattle.report_text.proofs.put_rows.Goals as goal

pub loop-row-init : goal.loop-row-init
loop-row-init c = series_none _ _ _

pub loop-row-preserved : goal.loop-row-preserved
loop-row-preserved c =
    let l = c.loop-row in
    let b = rw (c.name_of.ensures.name, c.from.ensures, c.seconds_of.ensures) at c.put_seconds_line-to.ensures in
    as_within refl (omega arith) (series_more (λ j. seconds_line (row_name j) (row_of c.args.t j)) l.row l.invariant b)

pub returns : goal.returns
unfolding row_lines
returns c = let n : c.loop-row.row ≡ row_count = omega arith in rw n at c.loop-row.invariant
