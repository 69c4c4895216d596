use Prim.Native.Nat.{◌+◌, ◌-◌, ◌<◌}
use mathlib.Core.Path.{◌≡◌}
use Rattle.key.specs.Rank.{rank}
use Rattle.outcomes.specs.Lent.{of_ref}
use Rattle.intersection.specs.InnerFound.{key_rank, Gone}
use Rattle.intersection.proofs.walk.write_most.Given as goal

-- the end that is carried along is the one at hand, where there is one
abbrev pub invariant-loop-here : goal.invariant-loop-here
invariant-loop-here l =
    (l.here.i < l.a.count → rank l.end_a ≡ key_rank l.a.ends.now l.here.i) × (l.here.j < l.b.count → rank l.end_b ≡ key_rank l.b.ends.now l.here.j)
    × Gone l.kind (of_ref l.a) (of_ref l.b) l.initial.here l.initial.out_starts l.initial.out_ends l.here l.out_starts l.out_ends

abbrev pub decreases-loop-here : goal.decreases-loop-here
decreases-loop-here l = (l.a.count - l.here.i) + (l.b.count - l.here.j)
