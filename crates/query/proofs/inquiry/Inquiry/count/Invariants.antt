use Prim.Native.Nat.{◌-◌}
use Rattle.key.specs.Rank.{rank}
use Rattle.query.specs.InnerWalk.{firsts, seconds}
use Rattle.query.proofs.Counting.{CountedSoFar}
use Rattle.query.proofs.inquiry.Inquiry.count.Given as goal

abbrev pub invariant-loop-s : goal.invariant-loop-s
invariant-loop-s l =
    CountedSoFar l.self.table (firsts l.self) (seconds l.self) (rank l.initial.s.key)
    (rank l.self.end) l.n l.s

abbrev pub decreases-loop-s : goal.decreases-loop-s
decreases-loop-s l = rank l.self.end - rank l.s.key
