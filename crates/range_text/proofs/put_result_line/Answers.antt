use native.Mathlib.Omega.{arith}
use mathlib.Core.Path.{refl}
use mir.Facts.{to_z-of_z}
use Rattle.filling.proofs.Laws.{in_room, then_within, as_within}
use Rattle.range_text.specs.RangeText.{result_line}
use Rattle.range_text.proofs.put_result_line.Goals as goal

pub returns : goal.returns
unfolding result_line
returns c =
    let a = rw (to_z-of_z c.ranges.start, to_z-of_z c.ranges.end) at c.put_range-to.ensures in
    as_within refl (omega arith) (then_within a (in_room {room = 1} (omega arith) c.put_byte.ensures))
