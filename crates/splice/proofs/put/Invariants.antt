use Prim.Native.Nat.{min}
use mathlib.Core.Path.{◌≡◌}
use lib.ListN.{length}
use lib.Seq.{paste}
use Rattle.splice.proofs.put.Given as goal

abbrev pub invariant-loop-k : goal.invariant-loop-k
invariant-loop-k g l = (length l.a ≡ length l.initial.a) × (l.a ≡ paste l.initial.a l.at l.new (min l.k l.n))
