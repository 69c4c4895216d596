-- Document 01's cases, by computation of the transcribed algorithm.
use mathlib.Core.Path.{◌≡◌, refl}
use mathlib.Core.List.{[], ◌∷◌}
use mathlib.Core.Option.{some, none}
use Rattle.span.specs.Span.{span, inside}
use Rattle.rust_algorithm.specs.Btree.{filtered, reversed, taken, up_to, from_to, strictly_between, deleted, entered}
use Rattle.rust_algorithm.specs.Map.{rust_ranges_overlap, rust_ranges_touch, cut_out, adjust, candidate, insert_loop, map_insert, remove_candidate, remove_loop}
use Rattle.rust_algorithm.specs.Map.{map_remove}
use Rattle.rust_algorithm.specs.Map.{map_get_key_value, map_get, ending_past, tail_gap, next_gap, collect_gaps, map_gaps}

unfoldable entries : Unit {0}
unfolding inside filtered reversed taken up_to from_to strictly_between deleted entered
entries = tt

unfoldable edits : Unit {0}
unfolding entries rust_ranges_overlap rust_ranges_touch cut_out adjust candidate insert_loop map_insert remove_candidate remove_loop map_remove
edits = tt

unfoldable all : Unit {0}
unfolding edits map_get_key_value map_get ending_past tail_gap next_gap collect_gaps map_gaps
all = tt

insert_joins : map_insert 5 8 1 (span 0 5 1 ∷ []) ≡ some (span 0 8 1 ∷ [])
unfolding all
insert_joins = refl

insert_other : map_insert 5 8 2 (span 0 5 1 ∷ []) ≡ some (span 0 5 1 ∷ span 5 8 2 ∷ [])
unfolding all
insert_other = refl

insert_inside : map_insert 2 4 2 (span 0 8 1 ∷ []) ≡ some (span 0 2 1 ∷ span 2 4 2 ∷ span 4 8 1 ∷ [])
unfolding all
insert_inside = refl

-- a stored range starts where the new one starts while another ends there
insert_left : map_insert 2 3 1 (span 0 2 1 ∷ span 2 4 2 ∷ []) ≡ some (span 0 3 1 ∷ span 3 4 2 ∷ [])
unfolding all
insert_left = refl

insert_many : map_insert 1 9 1 (span 0 2 2 ∷ span 3 4 1 ∷ span 4 6 3 ∷ span 9 12 1 ∷ span 12 13 2 ∷ []) ≡ some (span 0 1 2 ∷ span 1 12 1 ∷ span 12 13 2 ∷ [])
unfolding all
insert_many = refl

insert_empty : map_insert 5 5 1 [] ≡ none
unfolding all
insert_empty = refl

remove_inside : map_remove 3 6 (span 0 8 1 ∷ []) ≡ some (span 0 3 1 ∷ span 6 8 1 ∷ [])
unfolding all
remove_inside = refl

remove_many : map_remove 1 9 (span 0 2 2 ∷ span 3 4 1 ∷ span 4 6 3 ∷ span 8 12 1 ∷ span 12 13 2 ∷ []) ≡ some (span 0 1 2 ∷ span 9 12 1 ∷ span 12 13 2 ∷ [])
unfolding all
remove_many = refl

gaps_between : map_gaps 1 9 (span 0 2 1 ∷ span 2 3 2 ∷ span 5 8 1 ∷ []) ≡ some (span 3 5 0 ∷ span 8 9 0 ∷ [])
unfolding all
gaps_between = refl

get_last : map_get 4 (span 0 2 1 ∷ span 2 5 2 ∷ span 5 8 1 ∷ []) ≡ some 2
unfolding all
get_last = refl
