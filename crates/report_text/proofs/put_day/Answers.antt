use mir.Facts.{to_z-of_z}
use borrow.Author.Rules.{sfits_of}
use Rattle.filling.proofs.Laws.{then_within}
use Rattle.report_text.specs.ReportText.{day_lines}
use Rattle.report_text.proofs.put_day.Goals as goal

pub returns : goal.returns
unfolding day_lines
returns c =
    let a = rw (to_z-of_z (sfits_of c.struct_told-1.given.0.1)) at c.put_key_line-second.ensures in
    let b = rw (to_z-of_z (sfits_of c.struct_told-2-1.given.1.0.1)) at c.put_key_line-third.ensures in
    then_within (then_within a b) (rw c.seconds_between.ensures at c.put_seconds_line.ensures)
