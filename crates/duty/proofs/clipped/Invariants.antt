use Prim.Native.Nat.{◌+◌}
use mathlib.Core.List.{[]}
use lib.ListN.{get_or}
use Rattle.outcomes.specs.Lent.{of_ref}
use Rattle.duty.specs.InnerCounting.{part, seconds_in}
use Rattle.duty.proofs.Walking.{Going}
use Rattle.duty.proofs.clipped.Given as goal

abbrev pub invariant-loop-k : goal.invariant-loop-k
invariant-loop-k l =
    Going (of_ref l.m) l.window l.from l.to
    (λ d. get_or l.initial.t d 0 + seconds_in l.window d (part (of_ref l.m) l.from l.to))
    l.t [] l.k
