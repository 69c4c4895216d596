-- DOCUMENT 01's RULES OF REFUSALS, of sets: 4 where some value is not 0, and then as the map's function answers.
use Prim.Native.Nat.{ℕ, ◌-◌}
use mathlib.Core.Path.{◌≡◌, refl}
use mathlib.Core.List.{List, [], ◌∷◌}
use mathlib.Core.Option.{some, none}
use lib.IntN.{ℤ}
use Rattle.std.specs.Prelude.{Err}
use Rattle.answers.specs.Refusals.{number}
use Rattle.answers.specs.declared.Refusal.TheVariants.{NotFormed}
use Rattle.span.specs.Span.{given}
use Rattle.span.specs.Operations.{uncovered, holds}
use Rattle.key.specs.Rank.{rank}
use Rattle.key.specs.Range.{Kind}
use Rattle.outcomes.specs.Stored.{ranges}
use Rattle.outcomes.specs.declared.Stored.{Stored}
use Rattle.outcomes.specs.Outcomes.{not_written}
use Rattle.outcomes.specs.Outcomes.{first_place, leaving, range_at, first_of, last_of, lookup, overlaps, overlapping, gaps, equal, order, insert, remove}
use Rattle.outcomes.specs.Sets.{plain, if_set, if_sets}
use Rattle.one_map.proofs.Refusals.{Kept, unwritten_kept, kept_either, gaps_kept, unchanged_behind, edit_unchanged}
use Rattle.one_map.proofs.Refusals.{first_number, unformed, no_set, keyless, nothing_at, overfull, overlong}
use Rattle.one_map.proofs.Refusals.{told_number, found_number, part_number, order_number, list_number, edit_number, lets_pass, both_pass}
use Rattle.one_map.proofs.Refusals.{edit_order, place_order, lookup_order, overlaps_order, overlapping_order, equality_order, ordering_order, gaps_order}

module _ (kind : Kind) (m : Stored) where
  -- INSERT: 4, 1, 2
  pub set_insert_order : (s e : ℤ)
      → (if_set m (insert kind m s e 0) (λ why. leaving (number why) m)).answer
      ≡ first_number (no_set m ∷ unformed kind m ∷ keyless kind s e ∷ overfull (given (rank s) (kind.past e) (some 0) (ranges kind m)) ∷ [])
  set_insert_order s e = lets_pass edit_number (plain m) refl (edit_order kind m s e (some 0))

  -- refused, the set is as it was
  pub set_insert_unchanged : (s e : ℤ) → let o = if_set m (insert kind m s e 0) (λ why. leaving (number why) m) in (o.answer ≡ 0 → ⊥) → o.left ≡ m
  set_insert_unchanged s e = unchanged_behind m (plain m) _ (edit_unchanged kind m s e (some 0))

  -- REMOVE: 4, 1, 2
  pub set_remove_order : (s e : ℤ)
      → (if_set m (remove kind m s e) (λ why. leaving (number why) m)).answer
      ≡ first_number (no_set m ∷ unformed kind m ∷ keyless kind s e ∷ overfull (given (rank s) (kind.past e) none (ranges kind m)) ∷ [])
  set_remove_order s e = lets_pass edit_number (plain m) refl (edit_order kind m s e none)

  -- refused, the set is as it was
  pub set_remove_unchanged : (s e : ℤ) → let o = if_set m (remove kind m s e) (λ why. leaving (number why) m) in (o.answer ≡ 0 → ⊥) → o.left ≡ m
  set_remove_unchanged s e = unchanged_behind m (plain m) _ (edit_unchanged kind m s e none)

  -- RANGE AT A PLACE: 4, 5
  pub set_place_order : (i : ℕ) → found_number (if_set m (range_at kind m i) Err) ≡ first_number (no_set m ∷ unformed kind m ∷ nothing_at m i ∷ [])
  set_place_order i = lets_pass found_number (plain m) refl (place_order kind m i)

  -- FIRST: 4, 5
  pub set_first_order : found_number (if_set m (first_of kind m) Err) ≡ first_number (no_set m ∷ unformed kind m ∷ nothing_at m 0 ∷ [])
  set_first_order = set_place_order 0

  -- LAST: 4, 5
  pub set_last_order : found_number (if_set m (last_of kind m) Err) ≡ first_number (no_set m ∷ unformed kind m ∷ nothing_at m (m.count - 1) ∷ [])
  set_last_order = set_place_order (m.count - 1)

  -- LOOKUP: 4, 5
  pub set_lookup_order : (k : ℤ)
      → found_number (if_set m (lookup kind m k) Err)
      ≡ first_number (no_set m ∷ unformed kind m ∷ nothing_at m (first_place (holds (rank k)) (ranges kind m)) ∷ [])
  set_lookup_order k = lets_pass found_number (plain m) refl (lookup_order kind m k)

  -- OVERLAPS: 4, 1
  pub set_overlaps_order : (s e : ℤ)
      → told_number (if_set m (overlaps kind m s e) Err) ≡ first_number (no_set m ∷ unformed kind m ∷ keyless kind s e ∷ [])
  set_overlaps_order s e = lets_pass told_number (plain m) refl (overlaps_order kind m s e)

  -- OVERLAPPING: 4, 1
  pub set_overlapping_order : (s e : ℤ)
      → part_number (if_set m (overlapping kind m s e) Err) ≡ first_number (no_set m ∷ unformed kind m ∷ keyless kind s e ∷ [])
  set_overlapping_order s e = lets_pass part_number (plain m) refl (overlapping_order kind m s e)

  -- GAPS: 4, 1, 3
  pub set_gaps_order : (s e : ℤ) (starts ends : List ℤ)
      → list_number (if_set m (gaps kind m s e starts ends) (λ why. not_written why starts ends))
      ≡ first_number (no_set m ∷ unformed kind m ∷ keyless kind s e ∷ overlong (uncovered (rank s) (kind.past e) (ranges kind m)) starts ends ∷ [])
  set_gaps_order s e starts ends = lets_pass list_number (plain m) refl (gaps_order kind m s e starts ends)

  -- refused, the lists are as they were, and places past the count always are
  pub set_gaps_kept : (s e : ℤ) (starts ends : List ℤ) → Kept (if_set m (gaps kind m s e starts ends) (λ why. not_written why starts ends)) starts ends
  set_gaps_kept s e starts ends = kept_either (plain m) (gaps_kept kind starts ends m s e) (unwritten_kept NotFormed starts ends)

-- EQUALITY and ORDER: the first set, then the second
module _ (kind : Kind) (a b : Stored) where
  -- EQUALITY
  pub set_equality_order : told_number (if_sets a b (equal kind a b) Err) ≡ first_number (no_set a ∷ no_set b ∷ unformed kind a ∷ unformed kind b ∷ [])
  set_equality_order = both_pass told_number (plain a) (plain b) refl (equality_order kind a b)

  -- ORDER
  pub set_ordering_order : order_number (if_sets a b (order kind a b) Err)
      ≡ first_number (no_set a ∷ no_set b ∷ unformed kind a ∷ unformed kind b ∷ [])
  set_ordering_order = both_pass order_number (plain a) (plain b) refl (ordering_order kind a b)
