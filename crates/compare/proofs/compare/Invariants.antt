use mathlib.Core.Path.{◌≡◌}
use Rattle.key.specs.Range.{half_open}
use Rattle.outcomes.specs.Lent.{of_ref}
use Rattle.outcomes.specs.Outcomes.{order_sound}
use Rattle.compare.proofs.Walk.{onward}
use Rattle.compare.proofs.compare.Given as goal

abbrev pub invariant-loop-k : goal.invariant-loop-k
invariant-loop-k l = order_sound half_open (of_ref l.m) (of_ref l.other) ≡ onward (of_ref l.m) (of_ref l.other) l.k
