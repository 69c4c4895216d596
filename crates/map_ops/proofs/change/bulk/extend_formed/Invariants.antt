use mathlib.Core.Path.{◌≡◌}
use lib.ListN.{drop}
use Rattle.key.specs.Range.{kind_of}
use Rattle.outcomes.specs.Stored.{Sound}
use Rattle.outcomes.specs.Outcomes.{entries, bulk_insert_sound}
use Rattle.map_ops.proofs.change.bulk.extend_formed.Given as goal

abbrev pub invariant-loop-i : goal.invariant-loop-i
invariant-loop-i l =
    Sound (kind_of l.kind) l.m
    × (bulk_insert_sound (kind_of l.kind) l.initial.m 0 (entries l.new_starts l.new_ends l.new_values)
    ≡ bulk_insert_sound (kind_of l.kind) l.m l.i (drop l.i (entries l.new_starts l.new_ends l.new_values)))
