use Prim.Native.Nat.{◌+◌}
use mathlib.Core.Path.{◌≡◌}
use lib.ListN.{drop}
use lib.Seq.{sets}
use Rattle.decimal.specs.Decimal.{digits_text}
use Rattle.decimal.proofs.Putting.{Left}
use Rattle.decimal.proofs.put_digits.Given as goal

abbrev pub invariant-loop-i : goal.invariant-loop-i
invariant-loop-i l = let ds = digits_text l.k l.n in Left ds l.i l.rest × (l.out ≡ sets l.initial.out (l.at + l.i) (drop l.i ds))
