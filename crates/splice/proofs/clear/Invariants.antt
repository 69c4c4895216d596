use Prim.Native.Nat.{◌-◌, ◌≤◌, max}
use mathlib.Core.Path.{◌≡◌}
use lib.ListN.{length, replicate}
use lib.Seq.{sets}
use Rattle.splice.proofs.clear.Given as goal

abbrev pub invariant-loop-p : goal.invariant-loop-p
invariant-loop-p g l = (l.p ≤ max l.from l.to) × (length l.a ≡ length l.initial.a) × (l.a ≡ sets l.initial.a l.from (replicate (l.p - l.from) l.with))
