use native.Mathlib.Omega.{arith}
use mir.Facts.{to_z-of_z}
use Rattle.filling.proofs.Laws.{then_within}
use Rattle.graph_text.specs.GraphText.{graph_text}
use Rattle.graph_text.proofs.Quarters.{day_quarters}
use Rattle.graph_text.proofs.graph_text.Goals as goal

pub put_rows-sum-requires : goal.put_rows-sum-requires
put_rows-sum-requires c =
    let e = rw (to_z-of_z c.ranges.start, to_z-of_z c.ranges.end) at c.quarters_of-quarters.ensures in
    rw (to_z-of_z c.ranges.start, e) (day_quarters c.requires, omega arith)

pub returns : goal.returns
unfolding graph_text
returns c =
    let e = rw (to_z-of_z c.ranges.start, to_z-of_z c.ranges.end) at c.quarters_of-quarters.ensures in
    let a = rw e at c.put_hours_line-first.ensures in
    let b = rw (to_z-of_z c.ranges.start, e) at c.put_rows-sum.ensures in
    then_within (then_within a b) (rw e at c.put_sum_line.ensures)
