-- `unfolding all` opens every definition of the transcription, and what is asked of it.
use Rattle.span.specs.Span.{inside, joins, push, joined}
use Rattle.rust_algorithm.specs.Btree.{filtered, filtered_by, taken_while, reversed, taken, up_to, from_to, strictly_between, starting, starting_by, deleted, entered}
use Rattle.rust_algorithm.specs.Map.{rust_ranges_overlap, rust_ranges_touch, cut_out, adjust, candidate, insert_loop, map_insert}
use Rattle.rust_algorithm.specs.Map.{remove_candidate, remove_loop, map_remove, map_edit, map_extend, map_get_key_value, ending_past, map_overlapping}
use Rattle.rust_algorithm.specs.Map.{tail_gap, next_gap, collect_gaps, map_gaps, map_eq, number_cmp, map_cmp}
use Rattle.rust_algorithm.specs.InclusiveMap.{inclusive_range_contains, inclusive_ranges_overlap, inclusive_ranges_touch, left_back, right_back}
use Rattle.rust_algorithm.specs.InclusiveMap.{inclusive_cut_out, inclusive_adjust, inclusive_candidate, inclusive_insert_loop, inclusive_insert}
use Rattle.rust_algorithm.specs.InclusiveMap.{inclusive_remove_candidate, inclusive_remove_loop, inclusive_remove, inclusive_edit, inclusive_extend}
use Rattle.rust_algorithm.specs.InclusiveMap.{inclusive_get_key_value, ending_from, inclusive_overlapping, inclusive_eq, inclusive_cmp}
use Rattle.rust_algorithm.specs.InclusiveMap.{inclusive_tail_gap, inclusive_next_gap, inclusive_collect_gaps, inclusive_gaps, add_one_checked, sub_one_checked}
use Rattle.rust_algorithm.specs.Operations.{range_merge, inclusive_merge, range_intersect, inclusive_intersect, union_loop, union_next, collect_union}
use Rattle.rust_algorithm.specs.Operations.{intersection_next, collect_intersection, set_union, set_intersection, set_or, set_and}
use Rattle.rust_algorithm.specs.Operations.{inclusive_set_union, inclusive_set_intersection, inclusive_set_or, inclusive_set_and}
use Rattle.test_transcription.specs.Asked.{code, equal_code, relation_code, packed, of_pairs, key_with, small_map, of_two, small_maps, plainly, sets_of, sets}
use Rattle.test_transcription.specs.Asked.{map_row, map_rows, set_pair, set_pairs, range_row, ranges_from, range_rows, table, half_open_table, inclusive_table}

unfoldable entries : Unit {0}
unfolding inside joins push joined filtered filtered_by taken_while reversed taken up_to from_to strictly_between starting starting_by deleted entered
entries = tt

unfoldable maps : Unit {0}
unfolding entries rust_ranges_overlap rust_ranges_touch cut_out adjust candidate insert_loop map_insert remove_candidate remove_loop map_remove map_edit map_extend
maps = tt

unfoldable map_questions : Unit {0}
unfolding maps map_get_key_value ending_past map_overlapping tail_gap next_gap collect_gaps map_gaps map_eq number_cmp map_cmp
map_questions = tt

unfoldable steps : Unit {0}
unfolding map_questions inclusive_range_contains inclusive_ranges_overlap inclusive_ranges_touch left_back right_back add_one_checked sub_one_checked
steps = tt

unfoldable inclusive_inserts : Unit {0}
unfolding steps inclusive_cut_out inclusive_adjust inclusive_candidate inclusive_insert_loop inclusive_insert
inclusive_inserts = tt

unfoldable inclusive_maps : Unit {0}
unfolding inclusive_inserts inclusive_remove_candidate inclusive_remove_loop inclusive_remove inclusive_edit inclusive_extend
inclusive_maps = tt

unfoldable inclusive_questions : Unit {0}
unfolding inclusive_maps inclusive_get_key_value ending_from inclusive_overlapping inclusive_tail_gap inclusive_next_gap inclusive_collect_gaps
inclusive_questions = tt

unfoldable orders : Unit {0}
unfolding inclusive_questions inclusive_gaps inclusive_eq inclusive_cmp
orders = tt

unfoldable iterators : Unit {0}
unfolding orders range_merge inclusive_merge range_intersect inclusive_intersect union_loop union_next collect_union intersection_next collect_intersection
iterators = tt

unfoldable operations : Unit {0}
unfolding iterators set_union set_intersection set_or set_and inclusive_set_union inclusive_set_intersection inclusive_set_or inclusive_set_and
operations = tt

unfoldable codes : Unit {0}
unfolding operations code equal_code relation_code packed of_pairs key_with small_map of_two small_maps plainly sets_of sets
codes = tt

unfoldable pub all : Unit {0}
unfolding codes map_row map_rows set_pair set_pairs range_row ranges_from range_rows table half_open_table inclusive_table
all = tt
