use Prim.Native.Nat.{◌+◌, ◌-◌, ◌≤◌}
use Rattle.outcomes.specs.Lent.{of_ref}
use Rattle.two_sets.specs.InnerLists.{Counting}
use Rattle.intersection.specs.InnerFound.{shared, shared_from}
use Rattle.intersection.proofs.counted.Given as goal

abbrev pub invariant-loop-i : goal.invariant-loop-i
invariant-loop-i l =
    (l.i ≤ l.a.count) × (l.j ≤ l.b.count) × Counting (shared l.kind (of_ref l.a) (of_ref l.b)) l.n (shared_from l.kind (of_ref l.a) l.i (of_ref l.b) l.j)

abbrev pub decreases-loop-i : goal.decreases-loop-i
decreases-loop-i l = (l.a.count - l.i) + (l.b.count - l.j)
