use Prim.Native.Nat.{◌-◌}
use Rattle.key.specs.Rank.{rank}
use Rattle.query.specs.InnerWalk.{firsts, seconds}
use Rattle.query.proofs.Edges.{Sought}
use Rattle.query.proofs.inquiry.Inquiry.edge.Given as goal

abbrev pub invariant-loop-here : goal.invariant-loop-here
invariant-loop-here l =
    Sought l.self.table (firsts l.self) (seconds l.self) (rank l.initial.here.key)
    (rank l.self.end) l.so l.here

abbrev pub decreases-loop-here : goal.decreases-loop-here
decreases-loop-here l = rank l.self.end - rank l.here.key
