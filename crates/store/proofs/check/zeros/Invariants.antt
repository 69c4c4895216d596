use mir.Syntax.{w64}
use mir.Val.{of_z}
use lib.IntN.{pos}
use Rattle.store.proofs.Zeros.{Seen}
use Rattle.store.proofs.check.zeros.Given as goal

abbrev pub invariant-loop-key : goal.invariant-loop-key
invariant-loop-key l = Seen l.keys (pos 0) l.key-index (of_z w64 l.seen)
