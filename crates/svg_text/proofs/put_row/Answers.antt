use native.Mathlib.Omega.{arith}
use mathlib.Core.Path.{refl}
use Rattle.filling.proofs.Laws.{then_within, as_within}
use Rattle.svg_text.specs.SvgText.{row_svg}
use Rattle.svg_text.proofs.put_row.Goals as goal

pub returns : goal.returns
unfolding row_svg
returns c =
    let a = rw c.name_of.ensures.name at c.put_label-path.ensures in
    let t = rw (c.from-total.ensures, c.seconds_of.ensures) at c.put_total.ensures in
    as_within refl (omega arith) (then_within (then_within a c.put_marks_path-to.ensures) t)
