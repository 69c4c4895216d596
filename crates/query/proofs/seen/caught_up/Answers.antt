use native.Mathlib.Omega.{arith}
use Rattle.key.specs.Rank.{rank}
use Rattle.key.proofs.Laws.{tests, rank_back}
use Rattle.outcomes.specs.Lent.{of_ref}
use Rattle.query.proofs.Looks.{caught, catches}
use Rattle.query.proofs.seen.caught_up.Goals as goal

pub loop-here-init : goal.loop-here-init
loop-here-init c = simp rank_back c.requires.1

pub loop-here-preserved : goal.loop-here-preserved
loop-here-preserved c =
    let s = c.args in
    simp rank_back
    (catches (of_ref s.m.now) c.requires.0 c.loop-here.here (rank s.key) (simp rank_back at c.loop-here.invariant) (omega arith) (omega (arith, tests)))

pub returns-else-m-here : goal.returns-else-m-here
returns-else-m-here c =
    let s = c.args in
    caught (of_ref s.m.now) c.requires.0 c.loop-here.here (rank s.key) (simp rank_back at c.loop-here.invariant) (λ h. omega (arith, tests))

pub returns-after-loop-here : goal.returns-after-loop-here
returns-after-loop-here c =
    let s = c.args in
    caught (of_ref s.m.now) c.requires.0 c.loop-here.here (rank s.key) (simp rank_back at c.loop-here.invariant) (λ h. absurd (omega arith))
