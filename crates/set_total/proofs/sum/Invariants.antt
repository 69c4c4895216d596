use Prim.Native.Nat.{◌+◌}
use mathlib.Core.Path.{◌≡◌}
use Rattle.span.specs.Operations.{span_total}
use Rattle.key.specs.Range.{kind_of}
use Rattle.outcomes.specs.Lent.{of_ref}
use Rattle.two_sets.specs.InnerSides.{rows_from}
use Rattle.set_total.specs.InnerSum.{rows_total}
use Rattle.set_total.proofs.sum.Given as goal

abbrev pub invariant-loop-k : goal.invariant-loop-k
invariant-loop-k l = l.total + span_total (rows_from (kind_of l.kind) (of_ref l.m) l.k) ≡ rows_total l.kind (of_ref l.m)
