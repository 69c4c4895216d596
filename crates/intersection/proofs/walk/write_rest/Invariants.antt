use Prim.Native.Nat.{◌+◌, ◌-◌}
use Rattle.outcomes.specs.Lent.{of_ref}
use Rattle.intersection.specs.InnerFound.{Gone}
use Rattle.intersection.proofs.walk.write_rest.Given as goal

abbrev pub invariant-loop-here : goal.invariant-loop-here
invariant-loop-here l = Gone l.kind (of_ref l.a) (of_ref l.b) l.initial.here l.initial.out_starts l.initial.out_ends l.here l.out_starts l.out_ends

abbrev pub decreases-loop-here : goal.decreases-loop-here
decreases-loop-here l = (l.a.count - l.here.i) + (l.b.count - l.here.j)
