use Rattle.key.specs.Range.{kind_of}
use Rattle.store.proofs.Seeking.{Left}
use Rattle.store.proofs.search.first_past.Given as goal

abbrev pub invariant-loop-left : goal.invariant-loop-left
invariant-loop-left l = Left (kind_of l.kind) l.count l.keys l.from l.end l.low l.left

abbrev pub decreases-loop-left : goal.decreases-loop-left
decreases-loop-left l = l.left
