-- Document 01's cases of the inclusive map, by computation of the transcribed algorithm. A range s..=e is the span from s up to e + 1.
-- The steps are those of a build that checks, so a call of add_one at the greatest key would be a panic.
use Prim.Native.Nat.{ℕ, ◌-◌, ◌^◌}
use mathlib.Core.Path.{◌≡◌, refl}
use mathlib.Core.List.{List, [], ◌∷◌}
use mathlib.Core.Option.{Option, some}
use Rattle.span.specs.Span.{Span, span}
use Rattle.rust_algorithm.specs.Btree.{filtered, filtered_by, reversed, taken, up_to, starting, starting_by, deleted, entered}
use Rattle.rust_algorithm.specs.InclusiveMap.{inclusive_ranges_overlap, inclusive_ranges_touch, left_back, right_back, inclusive_cut_out}
use Rattle.rust_algorithm.specs.InclusiveMap.{inclusive_adjust, inclusive_candidate, inclusive_insert_loop, inclusive_insert}
use Rattle.rust_algorithm.specs.InclusiveMap.{inclusive_remove_candidate, inclusive_remove_loop, inclusive_remove, ending_from}
use Rattle.rust_algorithm.specs.InclusiveMap.{inclusive_tail_gap, inclusive_next_gap, inclusive_collect_gaps, inclusive_gaps}
use Rattle.rust_algorithm.specs.InclusiveMap.{add_one_checked, sub_one_checked}

abbrev insert : ℕ → ℕ → ℕ → List Span → Option (List Span)
insert lo last v m = inclusive_insert add_one_checked sub_one_checked lo last v m

abbrev remove : ℕ → ℕ → List Span → Option (List Span)
remove lo last m = inclusive_remove add_one_checked sub_one_checked lo last m

abbrev gaps : ℕ → ℕ → List Span → Option (List Span)
gaps lo last m = inclusive_gaps add_one_checked sub_one_checked lo last m

unfoldable entries : Unit {0}
unfolding filtered filtered_by reversed taken up_to starting starting_by deleted entered add_one_checked sub_one_checked
entries = tt

unfoldable parts : Unit {0}
unfolding entries inclusive_ranges_overlap inclusive_ranges_touch left_back right_back inclusive_cut_out inclusive_adjust
parts = tt

unfoldable edits : Unit {0}
unfolding parts inclusive_candidate inclusive_insert_loop inclusive_insert inclusive_remove_candidate inclusive_remove_loop inclusive_remove
edits = tt

unfoldable all : Unit {0}
unfolding edits ending_from inclusive_tail_gap inclusive_next_gap inclusive_collect_gaps inclusive_gaps
all = tt

insert_joins : insert 4 6 7 (span 1 4 7 ∷ []) ≡ some (span 1 7 7 ∷ [])
unfolding all
insert_joins = refl

insert_single : insert 5 5 1 [] ≡ some (span 5 6 1 ∷ [])
unfolding all
insert_single = refl

-- the greatest key has the rank 2 ^ 64 - 1
insert_greatest : insert (2 ^ 64 - 1) (2 ^ 64 - 1) 7 (span 5 (2 ^ 64 - 1) 7 ∷ []) ≡ some (span 5 (2 ^ 64) 7 ∷ [])
unfolding all
insert_greatest = refl

insert_left : insert 2 2 1 (span 0 2 1 ∷ span 2 4 2 ∷ []) ≡ some (span 0 3 1 ∷ span 3 4 2 ∷ [])
unfolding all
insert_left = refl

insert_many : insert 1 8 1 (span 0 2 2 ∷ span 3 4 1 ∷ span 4 6 3 ∷ span 9 12 1 ∷ span 12 13 2 ∷ []) ≡ some (span 0 1 2 ∷ span 1 12 1 ∷ span 12 13 2 ∷ [])
unfolding all
insert_many = refl

remove_inside : remove 3 5 (span 0 8 1 ∷ []) ≡ some (span 0 3 1 ∷ span 6 8 1 ∷ [])
unfolding all
remove_inside = refl

gaps_between : gaps 1 8 (span 0 2 1 ∷ span 2 3 2 ∷ span 5 8 1 ∷ []) ≡ some (span 3 5 0 ∷ span 8 9 0 ∷ [])
unfolding all
gaps_between = refl

gaps_greatest : gaps 0 (2 ^ 64 - 1) (span 0 2 1 ∷ span 5 (2 ^ 64) 2 ∷ []) ≡ some (span 2 5 0 ∷ [])
unfolding all
gaps_greatest = refl
