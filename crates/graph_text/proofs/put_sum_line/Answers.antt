use native.Mathlib.Omega.{arith}
use mathlib.Core.Path.{refl}
use lib.ListN.{length-replicate}
use Rattle.text.specs.Text.{space}
use Rattle.filling.proofs.Laws.{in_room, then_within, as_within}
use Rattle.graph_text.specs.GraphText.{sum_line}
use Rattle.graph_text.proofs.put_sum_line.Goals as goal

pub returns : goal.returns
unfolding sum_line
returns c =
    let n = c.args.day.quarters in
    let b = in_room {room = n} (omega (arith, length-replicate n space)) c.put_spaces-total.ensures in
    as_within refl (omega arith) (then_within (then_within c.put_name_column-blank.ensures b) (rw c.sum_of.ensures at c.put_total.ensures))
