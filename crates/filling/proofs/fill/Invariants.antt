use Rattle.filling.proofs.Fills.{FilledUpto}
use Rattle.filling.proofs.fill.Given as goal

abbrev pub invariant-loop-byte : goal.invariant-loop-byte
invariant-loop-byte l = FilledUpto l.text l.numbers l.initial.out l.at l.byte-index l.left l.out l.to
