use native.Mathlib.Omega.{arith}
use mathlib.Core.Path.{refl}
use Rattle.filling.proofs.Laws.{then_within, as_within}
use Rattle.graph_text.specs.GraphText.{row_line}
use Rattle.graph_text.proofs.put_row.Goals as goal

pub returns : goal.returns
unfolding row_line
returns c =
    let t = rw (c.from.ensures, c.seconds_of.ensures) at c.put_total.ensures in
    as_within refl (omega (arith, c.requires.0.few)) (then_within (then_within c.put_row_column-cells.ensures c.put_cells-total.ensures) t)
