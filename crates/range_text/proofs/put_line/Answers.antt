use native.Mathlib.Omega.{arith}
use mathlib.Core.Path.{refl}
use mir.Facts.{to_z-of_z}
use Rattle.filling.proofs.Laws.{then_within, as_within}
use Rattle.range_text.specs.RangeText.{range_line}
use Rattle.range_text.proofs.put_line.Goals as goal

pub returns : goal.returns
unfolding range_line
returns c =
    let a = rw (to_z-of_z c.ranges.start, to_z-of_z c.ranges.end) at c.put_range-to.ensures in
    as_within refl (omega arith) (then_within a (rw c.from.ensures at c.fill.ensures))
