use mir.Facts.{to_z-of_z}
use Rattle.filling.proofs.Laws.{then_within}
use Rattle.report_text.specs.ReportText.{report_text}
use Rattle.report_text.proofs.report_text.Goals as goal

pub returns : goal.returns
unfolding report_text
returns c =
    let f = c.ranges in
    let a = rw (to_z-of_z f.start, to_z-of_z f.end) at c.put_day-rows.ensures in
    then_within (then_within a c.put_rows-sum.ensures) (rw c.sum_of.ensures at c.put_seconds_line.ensures)
