use Rattle.text.proofs.Laws.{adds_left}
use Rattle.text.proofs.put_left.Goals as goal

pub returns : goal.returns
returns c =
    let s = c.args in
    adds_left s.width s.text.now c.saturating_sub-n.ensures c.put-to.ensures c.put_spaces.ensures
