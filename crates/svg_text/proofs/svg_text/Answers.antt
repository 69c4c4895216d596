use native.Mathlib.Omega.{arith}
use mathlib.Core.Path.{refl}
use mir.Facts.{to_z-of_z}
use Rattle.filling.proofs.Laws.{then_within, as_within}
use Rattle.graph_text.proofs.Quarters.{day_quarters}
use Rattle.svg_text.specs.SvgText.{svg_text}
use Rattle.svg_text.proofs.svg_text.Goals as goal

pub put_rows-foot-requires : goal.put_rows-foot-requires
put_rows-foot-requires c =
    let e = rw (to_z-of_z c.ranges.start, to_z-of_z c.ranges.end) at c.quarters_of-quarters.ensures in
    rw (to_z-of_z c.ranges.start, e) (day_quarters c.requires, omega arith)

pub returns : goal.returns
unfolding svg_text
returns c =
    let e = rw (to_z-of_z c.ranges.start, to_z-of_z c.ranges.end) at c.quarters_of-quarters.ensures in
    let a = rw e at c.put_frame-first.ensures in
    let b = rw (to_z-of_z c.ranges.start, e) at c.put_rows-foot.ensures in
    as_within refl (omega arith) (then_within (then_within a b) (rw (e, c.sum_of.ensures) at c.put_foot.ensures))
