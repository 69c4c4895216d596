-- Which definitions an operation means.
use Rattle.std.specs.Prelude.{List, ℤ}
use Rattle.span.specs.Span.{Span}
use Rattle.key.specs.Range.{Kind}
use Rattle.key.specs.declared.RangeKind.{RangeKind}
use Rattle.outcomes.specs.declared.Stored.{Stored}
use Rattle.outcomes.specs.Outcomes.{Written}
use Rattle.outcomes.specs.Sets.{intersection_sound, union_sound, intersection, union}
use Rattle.intersection.specs.InnerFound.{shared}
use Rattle.union.specs.InnerFound.{either}
use Rattle.operations.specs.declared.Operation.{Operation}

-- the ranges that its walk finds in two sets
abbrev pub found_by : Operation → RangeKind → Stored → Stored → List Span
found_by Operation.Intersection = shared
found_by Operation.Union = either

-- what it answers of two sets that are sound
abbrev pub combined : Operation → Kind → Stored → Stored → List ℤ → List ℤ → Written
combined Operation.Intersection = intersection_sound
combined Operation.Union = union_sound

-- and of any two
abbrev pub combined_any : Operation → Kind → Stored → Stored → List ℤ → List ℤ → Written
combined_any Operation.Intersection = intersection
combined_any Operation.Union = union
