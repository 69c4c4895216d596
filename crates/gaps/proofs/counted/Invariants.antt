use Rattle.key.specs.Rank.{rank}
use Rattle.key.specs.Range.{kind_of}
use Rattle.gaps.proofs.Steps.{Met}
use Rattle.gaps.proofs.counted.Given as goal

abbrev pub invariant-loop-k : goal.invariant-loop-k
invariant-loop-k l = Met (kind_of l.kind) l.m.starts.now l.m.ends.now l.m.count l.from (rank l.fn.outer.start) ((kind_of l.kind).past l.fn.outer.end) l.k (rank l.cursor) l.n
