use Prim.Native.Nat.{◌+◌, ◌-◌}
use Rattle.key.specs.Range.{kind_of}
use Rattle.outcomes.specs.Lent.{of_ref}
use Rattle.two_sets.specs.InnerLists.{Going}
use Rattle.union.specs.InnerFound.{open_at, OpenedAt}
use Rattle.union.proofs.walk.write_from.Given as goal

abbrev pub invariant-loop-here : goal.invariant-loop-here
invariant-loop-here l =
    OpenedAt l.kind (of_ref l.a) (of_ref l.b) l.here
    × Going (kind_of l.kind) l.initial.here.at l.initial.out_starts l.initial.out_ends (open_at l.kind (of_ref l.a) (of_ref l.b) l.initial.here)
    l.here.at (open_at l.kind (of_ref l.a) (of_ref l.b) l.here) l.out_starts l.out_ends

abbrev pub decreases-loop-here : goal.decreases-loop-here
decreases-loop-here l = (l.a.count + l.b.count) - (l.here.i + l.here.j)
