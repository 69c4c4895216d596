-- The smallest inputs that docs/DIFFERENCES.md names, by computation: what the transcribed Rust answers there. That the ledger refuses them: Differences.
use Prim.Native.Nat.{suc}
use mathlib.Core.Path.{◌≡◌, refl}
use mathlib.Core.Bool.{true, false}
use mathlib.Core.List.{[], ◌∷◌}
use mathlib.Core.Option.{some, none}
use lib.ListN.{length}
use native.Mathlib.Omega.{arith}
use lib.IntN.{ℤ, pos}
use Rattle.span.specs.Span.{span, inside, joins, tidy, keep, before, after, push, joined, given, inserted}
use Rattle.span.proofs.Tests.{tidy_yes}
use Rattle.span.proofs.Cases.{comb}
use Rattle.key.specs.Rank.{above_least, bit_rank, key_at}
use Rattle.key.specs.Range.{half_open}
use Rattle.key.specs.declared.Entry.{Entry}
use Rattle.outcomes.specs.Stored.{places, spans, ranges, filled, storing}
use Rattle.outcomes.specs.Outcomes.{edit_sound, bulk_insert_sound, clear}
use Rattle.rust_algorithm.specs.Btree.{filtered, filtered_by, taken_while, reversed, taken, up_to, from_to, strictly_between, starting, starting_by}
use Rattle.rust_algorithm.specs.Btree.{deleted}
use Rattle.rust_algorithm.specs.Btree.{entered}
use Rattle.rust_algorithm.specs.Map.{rust_ranges_overlap, rust_ranges_touch, cut_out, adjust, candidate, insert_loop, map_insert}
use Rattle.rust_algorithm.specs.Map.{remove_candidate, remove_loop, map_remove, map_extend}
use Rattle.rust_algorithm.specs.Map.{ending_past, map_overlapping, map_overlaps, tail_gap, next_gap, collect_gaps, map_gaps}
use Rattle.rust_algorithm.specs.InclusiveMap.{inclusive_ranges_touch, ending_from}
use Rattle.rust_algorithm.specs.InclusiveMap.{inclusive_overlapping, inclusive_overlaps, inclusive_gaps, inclusive_collect_gaps, inclusive_next_gap}
use Rattle.rust_algorithm.specs.InclusiveMap.{inclusive_tail_gap, inclusive_insert, add_one_checked, sub_one_checked}
use Rattle.rust_algorithm.specs.Operations.{range_merge, union_loop, union_next, collect_union, set_union, set_or}
use Rattle.rust_algorithm.proofs.Insert.{insert_is}

unfoldable entries : Unit {0}
unfolding inside filtered filtered_by taken_while reversed taken up_to from_to strictly_between starting starting_by deleted entered add_one_checked
entries = tt

unfoldable edits : Unit {0}
unfolding entries rust_ranges_overlap rust_ranges_touch cut_out adjust candidate insert_loop map_insert remove_candidate remove_loop map_remove map_extend
edits = tt

unfoldable queries : Unit {0}
unfolding edits ending_past map_overlapping map_overlaps tail_gap next_gap collect_gaps map_gaps ending_from inclusive_overlapping inclusive_overlaps
queries = tt

unfoldable inclusives : Unit {0}
unfolding queries inclusive_ranges_touch inclusive_gaps inclusive_collect_gaps inclusive_next_gap inclusive_tail_gap inclusive_insert
inclusives = tt

unfoldable all : Unit {0}
unfolding inclusives range_merge union_loop union_next collect_union set_union set_or
all = tt

-- touches, of an empty or reversed range: yes. 0..0 and 0..0; 1..1 and 0..1; 1..=0 and 0..=0
touches_itself : rust_ranges_touch 0 0 0 0 ≡ true
unfolding all
touches_itself = refl

touches_end : rust_ranges_touch 1 1 0 1 ≡ true
unfolding all
touches_end = refl

touches_reversed : inclusive_ranges_touch add_one_checked sub_one_checked 1 0 0 0 ≡ some true
unfolding all
touches_reversed = refl

-- contains, overlaps, touches otherwise: no. 1..0 and 0..5
contains_no : inside 1 0 0 ≡ false
unfolding all
contains_no = refl

overlaps_no : rust_ranges_overlap 1 0 0 5 ≡ false
unfolding all
overlaps_no = refl

touches_no : rust_ranges_touch 1 0 0 5 ≡ false
unfolding all
touches_no = refl

-- overlapping and overlaps of a map, with an empty or reversed query: it finds the range. {0..2}, 1..1; {0..3}, 2..1; {0..=1}, 1..=0
finds_at_empty : map_overlapping 1 1 (span 0 2 1 ∷ []) ≡ span 0 2 1 ∷ []
unfolding all
finds_at_empty = refl

finds_at_reversed : map_overlapping 2 1 (span 0 3 1 ∷ []) ≡ span 0 3 1 ∷ []
unfolding all
finds_at_reversed = refl

finds_inclusive : inclusive_overlapping 1 0 (span 0 2 1 ∷ []) ≡ span 0 2 1 ∷ []
unfolding all
finds_inclusive = refl

says_it_overlaps : map_overlaps 1 1 (span 0 2 1 ∷ []) ≡ true
unfolding all
says_it_overlaps = refl

-- the same, off all ranges: it finds nothing. {0..2}, 5..5
finds_nothing : map_overlapping 5 5 (span 0 2 1 ∷ []) ≡ []
unfolding all
finds_nothing = refl

-- gaps: no gap. 4..4, 5..3, 5..=3
no_gap_empty : map_gaps 4 4 [] ≡ some []
unfolding all
no_gap_empty = refl

no_gap_reversed : map_gaps 5 3 [] ≡ some []
unfolding all
no_gap_reversed = refl

no_gap_inclusive : inclusive_gaps add_one_checked sub_one_checked 5 3 [] ≡ some []
unfolding all
no_gap_inclusive = refl

-- insert and remove: a panic. 4..4, 9..4, 9..=4
insert_empty_panics : map_insert 4 4 1 [] ≡ none
unfolding all
insert_empty_panics = refl

remove_reversed_panics : map_remove 9 4 [] ≡ none
unfolding all
remove_reversed_panics = refl

inclusive_reversed_panics : inclusive_insert add_one_checked sub_one_checked 9 4 1 [] ≡ none
unfolding all
inclusive_reversed_panics = refl

-- bulk insert with a third entry 4..4: extend panics, and the first two alone are kept; the ledger answers 1, two applied
third_entry_panics : map_extend (span 0 1 1 ∷ span 2 3 1 ∷ span 4 4 1 ∷ []) [] ≡ none
unfolding all
third_entry_panics = refl

extend_two : map_extend (span 0 1 1 ∷ span 2 3 1 ∷ []) [] ≡ some (span 0 1 1 ∷ span 2 3 1 ∷ [])
unfolding all
extend_two = refl

abbrev to : ℤ → ℤ → Entry
to s e = record { start = s; end = e; value = 1 }

bulk_two : (bulk_insert_sound half_open (clear half_open) 0 (to (pos 0) (pos 1) ∷ to (pos 2) (pos 3) ∷ to (pos 4) (pos 4) ∷ [])).told ≡ record { answer = 1; applied = 2 }
unfolding inside keep before after joins push joined given above_least bit_rank key_at spans ranges filled storing edit_sound bulk_insert_sound clear
bulk_two = refl

-- a full map and one range more: the Rust holds it
full_is_tidy : tidy 0 (comb places 0) ≡ true
unfolding comb joins tidy
full_is_tidy = refl

holds_more : map_insert 9000 9001 1 (comb places 0) ≡ some (inserted 9000 9001 1 (comb places 0))
holds_more = insert_is 9000 9001 1 (comb places 0) (omega arith) (tidy_yes 0 (comb places 0) full_is_tidy)

one_too_many : length (inserted 9000 9001 1 (comb places 0)) ≡ suc places
unfolding inside keep before after joins push joined given comb
one_too_many = refl

-- .union() of {0..3} and {3..5} keeps two ranges; | joins them
union_keeps_two : set_union (span 0 3 0 ∷ []) (span 3 5 0 ∷ []) ≡ some (span 0 3 0 ∷ span 3 5 0 ∷ [])
unfolding all
union_keeps_two = refl

or_joins : set_or (span 0 3 0 ∷ []) (span 3 5 0 ∷ []) ≡ some (span 0 5 0 ∷ [])
unfolding all
or_joins = refl
