use Prim.Native.Nat.{◌+◌, ◌-◌, ◌≤◌}
use Rattle.outcomes.specs.Lent.{of_ref}
use Rattle.two_sets.specs.InnerLists.{Counting}
use Rattle.union.specs.InnerFound.{open_at, OpenedAt}
use Rattle.union.proofs.walk.counted_from.Given as goal

abbrev pub invariant-loop-here : goal.invariant-loop-here
invariant-loop-here l =
    (l.n ≤ l.here.i + l.here.j) × OpenedAt l.kind (of_ref l.a) (of_ref l.b) l.here
    × Counting (open_at l.kind (of_ref l.a) (of_ref l.b) l.initial.here) l.n (open_at l.kind (of_ref l.a) (of_ref l.b) l.here)

abbrev pub decreases-loop-here : goal.decreases-loop-here
decreases-loop-here l = (l.a.count + l.b.count) - (l.here.i + l.here.j)
