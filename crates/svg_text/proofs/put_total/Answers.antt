use native.Mathlib.Omega.{arith}
use mathlib.Core.Path.{refl}
use Rattle.filling.proofs.Laws.{in_room, then_within, as_within}
use Rattle.report_text.proofs.Columns.{right_long, clock_long}
use Rattle.svg_text.specs.SvgText.{total_svg}
use Rattle.svg_text.proofs.put_total.Goals as goal

pub returns : goal.returns
unfolding total_svg
returns c =
    let n = c.args.n in
    let b = as_within {n = 26} (right_long 6 _ (clock_long n)) (omega arith) c.put_clock-to.ensures in
    as_within refl (omega arith) (then_within (then_within c.fill-clock.ensures b) (in_room {room = 8} (omega arith) c.put.ensures))
