use Prim.Native.Nat.{◌-◌}
use Rattle.key.specs.Rank.{rank}
use Rattle.outcomes.specs.Lent.{of_ref}
use Rattle.query.specs.InnerColumns.{spans_of}
use Rattle.query.specs.InnerSeen.{Trails}
use Rattle.query.proofs.seen.caught_up.Given as goal

abbrev pub invariant-loop-here : goal.invariant-loop-here
invariant-loop-here l = Trails (spans_of (of_ref l.m)) l.here (rank l.key)

abbrev pub decreases-loop-here : goal.decreases-loop-here
decreases-loop-here l = l.m.count - l.here
