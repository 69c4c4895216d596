use Prim.Native.Nat.{◌+◌, ◌-◌, ◌≤◌}
use mathlib.Core.Path.{◌≡◌}
use Rattle.outcomes.specs.Lent.{of_ref}
use Rattle.intersection.specs.InnerFound.{shared, shared_from}
use Rattle.intersection.proofs.write.Given as goal

abbrev pub invariant-loop-i : goal.invariant-loop-i
invariant-loop-i l =
    (l.i ≤ l.a.count) × (l.j ≤ l.b.count) × (l.out_starts ≡ l.initial.out_starts) × (l.out_ends ≡ l.initial.out_ends)
    × (shared l.kind (of_ref l.a) (of_ref l.b) ≡ shared_from l.kind (of_ref l.a) l.i (of_ref l.b) l.j)

abbrev pub decreases-loop-i : goal.decreases-loop-i
decreases-loop-i l = (l.a.count - l.i) + (l.b.count - l.j)
