-- WHAT EACH EXPORTED FUNCTION OF AN INCLUSIVE MAP PROMISES, in document 01's order.
-- Each is over what a caller sees: what is lent, at entry and (with a prime) at exit; the other arguments; and last the answer as C and Rust have it.
use Rattle.std.specs.Prelude.{ℕ, ◌≡◌, List, Bool, true, length, ℤ}
use Rattle.std.proofs.Math.Option.{some, none}
use Rattle.key.specs.Range.{inclusive}
use Rattle.outcomes.specs.Outcomes.{clear, is_empty, count_of, range_at, first_of, last_of, lookup, contains, overlaps, overlapping, Listed, gaps, equal, order}
use Rattle.outcomes.specs.Outcomes.{insert, leaving, remove, entries, extended, bulk_insert, formed, lookup_sound, gaps_sound, edit_sound}
use Rattle.inclusive_map.specs.Map.{held}
use Rattle.outcomes.specs.Numbers.{asked_in_c, counted_in_c, found_in_c, part_in_c, compared_in_c}
use Rattle.outcomes.specs.Stored.{places, Sound}
use Rattle.inclusive_map.specs.declared.RangeInclusiveMap.{RangeInclusiveMap}
use Rattle.outcomes.specs.declared.Applied.{Applied}
use Rattle.outcomes.specs.declared.Count.{Count}
use Rattle.outcomes.specs.declared.Order.{Order}
use Rattle.outcomes.specs.declared.Range.{Range}
use Rattle.outcomes.specs.declared.Stretch.{Stretch}
use Rattle.outcomes.specs.declared.Told.{Told}

-- `range_inclusive_map_new`: a new map, which holds nothing.
abbrev pub RangeInclusiveMapNew : RangeInclusiveMap → Type 0
RangeInclusiveMapNew r = held r ≡ clear inclusive

-- `range_inclusive_map_is_empty`: whether nothing is held.
abbrev pub RangeInclusiveMapIsEmpty : RangeInclusiveMap → Told → Type 0
RangeInclusiveMapIsEmpty m r = r ≡ asked_in_c (is_empty inclusive (held m))

-- `range_inclusive_map_len`: how many ranges are held.
abbrev pub RangeInclusiveMapLen : RangeInclusiveMap → Count → Type 0
RangeInclusiveMapLen m r = r ≡ counted_in_c (count_of inclusive (held m))

-- `range_inclusive_map_range_at`: the range and the value at a place.
abbrev pub RangeInclusiveMapRangeAt : RangeInclusiveMap → ℕ → Range → Type 0
RangeInclusiveMapRangeAt m place r = r ≡ found_in_c (range_at inclusive (held m) place)

-- `range_inclusive_map_first_range_value`: the first range and its value.
abbrev pub RangeInclusiveMapFirstRangeValue : RangeInclusiveMap → Range → Type 0
RangeInclusiveMapFirstRangeValue m r = r ≡ found_in_c (first_of inclusive (held m))

-- `range_inclusive_map_last_range_value`: the last range and its value.
abbrev pub RangeInclusiveMapLastRangeValue : RangeInclusiveMap → Range → Type 0
RangeInclusiveMapLastRangeValue m r = r ≡ found_in_c (last_of inclusive (held m))

-- `range_inclusive_map_get_key_value`: the range that holds the key, and its value.
abbrev pub RangeInclusiveMapGetKeyValue : RangeInclusiveMap → ℤ → Range → Type 0
RangeInclusiveMapGetKeyValue m key r = r ≡ found_in_c (lookup inclusive (held m) key)

-- `range_inclusive_map_contains_key`: whether some range holds the key.
abbrev pub RangeInclusiveMapContainsKey : RangeInclusiveMap → ℤ → Told → Type 0
RangeInclusiveMapContainsKey m key r = r ≡ asked_in_c (contains inclusive (held m) key)

-- `range_inclusive_map_overlaps`: whether some range has a key of the query.
abbrev pub RangeInclusiveMapOverlaps : RangeInclusiveMap → ℤ → ℤ → Told → Type 0
RangeInclusiveMapOverlaps m start end r = r ≡ asked_in_c (overlaps inclusive (held m) start end)

-- `range_inclusive_map_overlapping`: which consecutive stored part meets the query.
abbrev pub RangeInclusiveMapOverlapping : RangeInclusiveMap → ℤ → ℤ → Stretch → Type 0
RangeInclusiveMapOverlapping m start end r = r ≡ part_in_c (overlapping inclusive (held m) start end)

-- `range_inclusive_map_gaps`: the maximal uncovered ranges inside start..=end, into the first places of two lent lists.
abbrev pub RangeInclusiveMapGaps : RangeInclusiveMap → ℤ → ℤ → List ℤ → List ℤ → List ℤ → List ℤ → Count → Type 0
RangeInclusiveMapGaps m start end outStarts outStarts' outEnds outEnds' r =
    Listed r outStarts' outEnds' (gaps inclusive (held m) start end outStarts outEnds)

-- `range_inclusive_map_eq`: whether two maps hold the same ranges with the same values.
abbrev pub RangeInclusiveMapEq : RangeInclusiveMap → RangeInclusiveMap → Told → Type 0
RangeInclusiveMapEq a b r = r ≡ asked_in_c (equal inclusive (held a) (held b))

-- `range_inclusive_map_cmp`: which of two maps comes first: -1, 0 or 1.
abbrev pub RangeInclusiveMapCmp : RangeInclusiveMap → RangeInclusiveMap → Order → Type 0
RangeInclusiveMapCmp a b r = r ≡ compared_in_c (order inclusive (held a) (held b))

-- `range_inclusive_map_insert`: gives the value to each instant of start..=end and to no other.
abbrev pub RangeInclusiveMapInsert : RangeInclusiveMap → RangeInclusiveMap → ℤ → ℤ → ℕ → ℕ → Type 0
RangeInclusiveMapInsert m m' start end value r = leaving r (held m') ≡ insert inclusive (held m) start end value

-- `range_inclusive_map_remove`: uncovers exactly the instants of start..=end.
abbrev pub RangeInclusiveMapRemove : RangeInclusiveMap → RangeInclusiveMap → ℤ → ℤ → ℕ → Type 0
RangeInclusiveMapRemove m m' start end r = leaving r (held m') ≡ remove inclusive (held m) start end

-- `range_inclusive_map_clear`: leaves nothing held, whatever the map was.
abbrev pub RangeInclusiveMapClear : RangeInclusiveMap → RangeInclusiveMap → Type 0
RangeInclusiveMapClear m m' = held m' ≡ clear inclusive

-- `range_inclusive_map_extend`: inserts the entries of three lent lists in order, up to the first refusal.
abbrev pub RangeInclusiveMapExtend : RangeInclusiveMap → RangeInclusiveMap → List ℤ → List ℤ → List ℕ → Applied → Type 0
RangeInclusiveMapExtend m m' starts ends values r = extended r (held m') ≡ bulk_insert inclusive (held m) (entries starts ends values)

-- `range_inclusive_map_well_formed`: whether a map is well formed. Where it is, it is what an unchecked door requires, and has all its places.
abbrev pub RangeInclusiveMapWellFormed : RangeInclusiveMap → Bool → Type 0
RangeInclusiveMapWellFormed m r = (r ≡ formed inclusive (held m)) × (r ≡ true → Sound inclusive (held m) × (length m.stored.starts ≡ places))

-- `range_inclusive_map_get_key_value_unchecked`: lookup through the unchecked door: the map must be well formed.
abbrev pub RangeInclusiveMapGetKeyValueUnchecked : RangeInclusiveMap → ℤ → Range → Type 0
RangeInclusiveMapGetKeyValueUnchecked m key r = r ≡ found_in_c (lookup_sound inclusive (held m) key)

-- `range_inclusive_map_gaps_unchecked`: gaps through the unchecked door: the map must be well formed.
abbrev pub RangeInclusiveMapGapsUnchecked : RangeInclusiveMap → ℤ → ℤ → List ℤ → List ℤ → List ℤ → List ℤ → Count → Type 0
RangeInclusiveMapGapsUnchecked m start end outStarts outStarts' outEnds outEnds' r =
    Listed r outStarts' outEnds' (gaps_sound inclusive (held m) start end outStarts outEnds)

-- `range_inclusive_map_insert_unchecked`: insert through the unchecked door: the map must be well formed.
abbrev pub RangeInclusiveMapInsertUnchecked : RangeInclusiveMap → RangeInclusiveMap → ℤ → ℤ → ℕ → ℕ → Type 0
RangeInclusiveMapInsertUnchecked m m' start end value r = leaving r (held m') ≡ edit_sound inclusive places (held m) start end (some value)

-- `range_inclusive_map_remove_unchecked`: remove through the unchecked door: the map must be well formed.
abbrev pub RangeInclusiveMapRemoveUnchecked : RangeInclusiveMap → RangeInclusiveMap → ℤ → ℤ → ℕ → Type 0
RangeInclusiveMapRemoveUnchecked m m' start end r = leaving r (held m') ≡ edit_sound inclusive places (held m) start end none
