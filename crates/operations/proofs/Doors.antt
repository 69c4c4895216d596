-- What the doors answer, for each operation: what its walk finds in two sound sets is what its outcome says.
use Prim.Native.Nat.{◌+◌, ◌≤◌}
use mathlib.Core.Path.{◌≡◌}
use mathlib.Core.Bool.{true, false, ◌&&◌}
use mathlib.Core.List.{List}
use lib.ListN.{length}
use lib.IntN.{ℤ}
use Rattle.key.specs.Range.{Kind, kind_of}
use Rattle.key.specs.declared.RangeKind.{RangeKind}
use Rattle.outcomes.specs.declared.Stored.{Stored}
use Rattle.outcomes.specs.Outcomes.{not_written, Written, into_lists}
use Rattle.outcomes.specs.Sets.{SoundSet, formed_set, intersection_sound, union_sound, intersection, union}
use Rattle.two_sets.specs.InnerSides.{Side}
use Rattle.two_sets.proofs.Doors.{rows_are}
use Rattle.intersection.proofs.Steps as intersection
use Rattle.union.proofs.Steps as union
use Rattle.operations.specs.InnerOperation.{found_by, combined, combined_any}
use Rattle.operations.specs.declared.Operation.{Operation}
use Rattle.answers.specs.declared.Refusal.TheVariants.{NotFormed}

-- at most as many ranges as the sets have together
pub most : (operation : Operation) (kind : RangeKind) {a b : Stored} → Side (kind_of kind) a → Side (kind_of kind) b
    → length (found_by operation kind a b) ≤ a.count + b.count
most Operation.Intersection = intersection.most
most Operation.Union = union.most

-- THE UNCHECKED DOOR
pub answered : (operation : Operation) (kind : RangeKind) {a b : Stored} → SoundSet (kind_of kind) a → SoundSet (kind_of kind) b → (os oe : List ℤ) {w : Written}
    → w ≡ into_lists (kind_of kind) (found_by operation kind a b) os oe
    → w ≡ combined operation (kind_of kind) a b os oe
unfolding intersection_sound union_sound
answered Operation.Intersection kind s t os oe e = rw (← rows_are (kind_of kind) s, ← rows_are (kind_of kind) t) e
answered Operation.Union kind s t os oe e = rw (← rows_are (kind_of kind) s, ← rows_are (kind_of kind) t) e

-- THE DOOR OF ANY SETS: one of the two is no set; and both are
module _ (kind : Kind) (a b : Stored) (os oe : List ℤ) where
  pub no_sets : (operation : Operation) → (formed_set kind a && formed_set kind b) ≡ false → not_written NotFormed os oe ≡ combined_any operation kind a b os oe
  unfolding intersection union
  no_sets Operation.Intersection h = rw h
  no_sets Operation.Union h = rw h

  pub both_sets : (operation : Operation) → (formed_set kind a && formed_set kind b) ≡ true
      → combined operation kind a b os oe ≡ combined_any operation kind a b os oe
  unfolding intersection union
  both_sets Operation.Intersection h = rw h
  both_sets Operation.Union h = rw h
