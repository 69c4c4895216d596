use Rattle.store.proofs.Zeros.{Seen}
use Rattle.store.proofs.plain.plain.Given as goal

abbrev pub invariant-loop-value : goal.invariant-loop-value
invariant-loop-value l = Seen l.values 0 l.value-index l.seen
