-- WHAT EACH EXPORTED FUNCTION OF A HALF-OPEN MAP PROMISES, in document 01's order.
-- Each is over what a caller sees: what is lent, at entry and (with a prime) at exit; the other arguments; and last the answer as C and Rust have it.
use Rattle.std.specs.Prelude.{ℕ, ◌≡◌, List, Bool, true, length, ℤ}
use Rattle.std.proofs.Math.Option.{some, none}
use Rattle.key.specs.Range.{half_open}
use Rattle.outcomes.specs.Outcomes.{clear, is_empty, count_of, range_at, first_of, last_of, lookup, contains, overlaps, overlapping, Listed, gaps, equal, order}
use Rattle.outcomes.specs.Outcomes.{insert, leaving, remove, entries, extended, bulk_insert, formed, lookup_sound, gaps_sound, edit_sound}
use Rattle.map.specs.Map.{held}
use Rattle.outcomes.specs.Numbers.{asked_in_c, counted_in_c, found_in_c, part_in_c, compared_in_c}
use Rattle.outcomes.specs.Stored.{places, Sound}
use Rattle.map.specs.declared.RangeMap.{RangeMap}
use Rattle.outcomes.specs.declared.Applied.{Applied}
use Rattle.outcomes.specs.declared.Count.{Count}
use Rattle.outcomes.specs.declared.Order.{Order}
use Rattle.outcomes.specs.declared.Range.{Range}
use Rattle.outcomes.specs.declared.Stretch.{Stretch}
use Rattle.outcomes.specs.declared.Told.{Told}

-- `range_map_new`: a new map, which holds nothing.
abbrev pub RangeMapNew : RangeMap → Type 0
RangeMapNew r = held r ≡ clear half_open

-- `range_map_is_empty`: whether nothing is held.
abbrev pub RangeMapIsEmpty : RangeMap → Told → Type 0
RangeMapIsEmpty m r = r ≡ asked_in_c (is_empty half_open (held m))

-- `range_map_len`: how many ranges are held.
abbrev pub RangeMapLen : RangeMap → Count → Type 0
RangeMapLen m r = r ≡ counted_in_c (count_of half_open (held m))

-- `range_map_range_at`: the range and the value at a place.
abbrev pub RangeMapRangeAt : RangeMap → ℕ → Range → Type 0
RangeMapRangeAt m place r = r ≡ found_in_c (range_at half_open (held m) place)

-- `range_map_first_range_value`: the first range and its value.
abbrev pub RangeMapFirstRangeValue : RangeMap → Range → Type 0
RangeMapFirstRangeValue m r = r ≡ found_in_c (first_of half_open (held m))

-- `range_map_last_range_value`: the last range and its value.
abbrev pub RangeMapLastRangeValue : RangeMap → Range → Type 0
RangeMapLastRangeValue m r = r ≡ found_in_c (last_of half_open (held m))

-- `range_map_get_key_value`: the range that holds the key, and its value.
abbrev pub RangeMapGetKeyValue : RangeMap → ℤ → Range → Type 0
RangeMapGetKeyValue m key r = r ≡ found_in_c (lookup half_open (held m) key)

-- `range_map_contains_key`: whether some range holds the key.
abbrev pub RangeMapContainsKey : RangeMap → ℤ → Told → Type 0
RangeMapContainsKey m key r = r ≡ asked_in_c (contains half_open (held m) key)

-- `range_map_overlaps`: whether some range has a key of the query.
abbrev pub RangeMapOverlaps : RangeMap → ℤ → ℤ → Told → Type 0
RangeMapOverlaps m start end r = r ≡ asked_in_c (overlaps half_open (held m) start end)

-- `range_map_overlapping`: which consecutive stored part meets the query.
abbrev pub RangeMapOverlapping : RangeMap → ℤ → ℤ → Stretch → Type 0
RangeMapOverlapping m start end r = r ≡ part_in_c (overlapping half_open (held m) start end)

-- `range_map_gaps`: the maximal uncovered ranges inside start..end, into the first places of two lent lists.
abbrev pub RangeMapGaps : RangeMap → ℤ → ℤ → List ℤ → List ℤ → List ℤ → List ℤ → Count → Type 0
RangeMapGaps m start end outStarts outStarts' outEnds outEnds' r = Listed r outStarts' outEnds' (gaps half_open (held m) start end outStarts outEnds)

-- `range_map_eq`: whether two maps hold the same ranges with the same values.
abbrev pub RangeMapEq : RangeMap → RangeMap → Told → Type 0
RangeMapEq a b r = r ≡ asked_in_c (equal half_open (held a) (held b))

-- `range_map_cmp`: which of two maps comes first: -1, 0 or 1.
abbrev pub RangeMapCmp : RangeMap → RangeMap → Order → Type 0
RangeMapCmp a b r = r ≡ compared_in_c (order half_open (held a) (held b))

-- `range_map_insert`: gives the value to each instant of start..end and to no other.
abbrev pub RangeMapInsert : RangeMap → RangeMap → ℤ → ℤ → ℕ → ℕ → Type 0
RangeMapInsert m m' start end value r = leaving r (held m') ≡ insert half_open (held m) start end value

-- `range_map_remove`: uncovers exactly the instants of start..end.
abbrev pub RangeMapRemove : RangeMap → RangeMap → ℤ → ℤ → ℕ → Type 0
RangeMapRemove m m' start end r = leaving r (held m') ≡ remove half_open (held m) start end

-- `range_map_clear`: leaves nothing held, whatever the map was.
abbrev pub RangeMapClear : RangeMap → RangeMap → Type 0
RangeMapClear m m' = held m' ≡ clear half_open

-- `range_map_extend`: inserts the entries of three lent lists in order, up to the first refusal.
abbrev pub RangeMapExtend : RangeMap → RangeMap → List ℤ → List ℤ → List ℕ → Applied → Type 0
RangeMapExtend m m' starts ends values r = extended r (held m') ≡ bulk_insert half_open (held m) (entries starts ends values)

-- `range_map_well_formed`: whether a map is well formed. Where it is, it is what an unchecked door requires, and has all its places.
abbrev pub RangeMapWellFormed : RangeMap → Bool → Type 0
RangeMapWellFormed m r = (r ≡ formed half_open (held m)) × (r ≡ true → Sound half_open (held m) × (length m.stored.starts ≡ places))

-- `range_map_get_key_value_unchecked`: lookup through the unchecked door: the map must be well formed.
abbrev pub RangeMapGetKeyValueUnchecked : RangeMap → ℤ → Range → Type 0
RangeMapGetKeyValueUnchecked m key r = r ≡ found_in_c (lookup_sound half_open (held m) key)

-- `range_map_gaps_unchecked`: gaps through the unchecked door: the map must be well formed.
abbrev pub RangeMapGapsUnchecked : RangeMap → ℤ → ℤ → List ℤ → List ℤ → List ℤ → List ℤ → Count → Type 0
RangeMapGapsUnchecked m start end outStarts outStarts' outEnds outEnds' r =
    Listed r outStarts' outEnds' (gaps_sound half_open (held m) start end outStarts outEnds)

-- `range_map_insert_unchecked`: insert through the unchecked door: the map must be well formed.
abbrev pub RangeMapInsertUnchecked : RangeMap → RangeMap → ℤ → ℤ → ℕ → ℕ → Type 0
RangeMapInsertUnchecked m m' start end value r = leaving r (held m') ≡ edit_sound half_open places (held m) start end (some value)

-- `range_map_remove_unchecked`: remove through the unchecked door: the map must be well formed.
abbrev pub RangeMapRemoveUnchecked : RangeMap → RangeMap → ℤ → ℤ → ℕ → Type 0
RangeMapRemoveUnchecked m m' start end r = leaving r (held m') ≡ edit_sound half_open places (held m) start end none
