use native.Mathlib.Omega.{arith}
use Rattle.key.proofs.Laws.{rank_back}
use Rattle.two_sets.proofs.Kinded.{lt_test}
use Rattle.union.proofs.Steps.{next_both}
use Rattle.union.proofs.walk.next.Goals as goal

pub returns : goal.returns
returns c =
    next_both _ (omega arith) (omega arith) (lt_test _ _)
    (simp rank_back (simp rank_back at c.pick.ensures))
    (simp rank_back (simp rank_back at c.pick-2.ensures))
