use Prim.Native.Nat.{◌-◌}
use Rattle.key.specs.Rank.{rank}
use Rattle.query.specs.InnerWalk.{firsts, seconds}
use Rattle.query.proofs.Writing.{Underway, Opened}
use Rattle.query.proofs.inquiry.Inquiry.write.Given as goal

abbrev pub invariant-loop-here : goal.invariant-loop-here
invariant-loop-here l =
    Underway l.self.table (firsts l.self) (seconds l.self) (rank l.initial.here.key)
    (rank l.self.end) l.initial.out_starts l.initial.out_ends l.out_starts l.out_ends l.n (rank l.start)
    × Opened l.self.table (firsts l.self) (seconds l.self) (rank l.self.end)
    (rank l.start) l.here

abbrev pub decreases-loop-here : goal.decreases-loop-here
decreases-loop-here l = rank l.self.end - rank l.here.key
