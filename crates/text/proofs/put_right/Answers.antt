use native.Mathlib.Omega.{arith}
use lib.ListN.{length-replicate}
use Rattle.text.specs.Text.{space}
use Rattle.text.proofs.Laws.{adds_right}
use Rattle.text.proofs.put_right.Goals as goal

pub put-requires : goal.put-requires
put-requires c = omega (arith, length-replicate c.saturating_sub-n.result space)

pub returns : goal.returns
returns c =
    let s = c.args in
    adds_right s.width s.text.now c.saturating_sub-n.ensures c.put_spaces-to.ensures c.put.ensures
