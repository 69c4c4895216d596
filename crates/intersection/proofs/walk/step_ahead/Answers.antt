use mathlib.Core.Path.{refl}
use Rattle.key.proofs.Laws.{rank_back}
use Rattle.intersection.proofs.Steps.{ahead_a, ahead_b, stepped_as}
use Rattle.intersection.proofs.walk.step_ahead.Goals as goal

pub returns : goal.returns
returns c =
    let a = c.args in
    let left = c.step_over-s.result.left in
    let e = stepped_as c.requires.4 c.requires.5 (simp rank_back at c.step_over-s.ensures) in
    record {
      step = e;
      ahead_a = simp rank_back (ahead_a left a.a.now.ends.now a.i c.requires.4 refl (simp rank_back at c.pick.ensures));
      ahead_b = simp rank_back (ahead_b left a.b.now.ends.now a.j c.requires.5 refl (simp rank_back at c.pick-2.ensures));
    }
