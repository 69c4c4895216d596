use mathlib.Core.Path.{◌≡◌}
use lib.ListN.{drop}
use Rattle.key.specs.Range.{kind_of}
use Rattle.outcomes.specs.Stored.{Sound}
use Rattle.outcomes.specs.Outcomes.{bulk_insert_sound}
use Rattle.outcomes.specs.Sets.{pairs}
use Rattle.set_ops.proofs.bulk.extend_formed.Given as goal

abbrev pub invariant-loop-i : goal.invariant-loop-i
invariant-loop-i l =
    Sound (kind_of l.kind) l.m
    × (bulk_insert_sound (kind_of l.kind) l.initial.m 0 (pairs l.new_starts l.new_ends)
    ≡ bulk_insert_sound (kind_of l.kind) l.m l.i (drop l.i (pairs l.new_starts l.new_ends)))
