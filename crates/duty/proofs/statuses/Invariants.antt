use Prim.Native.Nat.{◌+◌}
use Rattle.key.specs.InnerDecides.{Decides}
use Rattle.duty.specs.InnerCounting.{Statuses}
use Rattle.duty.proofs.statuses.Given as goal

abbrev pub invariant-loop-value : goal.invariant-loop-value
invariant-loop-value l = Decides l.all (Statuses l.values l.from (l.from + l.value-index))
