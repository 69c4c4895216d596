-- WHAT EACH EXPORTED FUNCTION OF A SET OF HALF-OPEN RANGES PROMISES, in document 01's order.
-- Each is over what a caller sees: what is lent, at entry and (with a prime) at exit; the other arguments; and last the answer as C and Rust have it.
use Rattle.answers.specs.Refusals.{number}
use Rattle.std.specs.Prelude.{ℕ, ◌≡◌, List, Bool, true, length, ℤ}
use Rattle.key.specs.Range.{half_open}
use Rattle.outcomes.specs.Outcomes.{not_written}
use Rattle.outcomes.specs.Outcomes.{clear, Listed, leaving, extended, is_empty, count_of, range_at, first_of, last_of, lookup, contains, overlaps, overlapping}
use Rattle.outcomes.specs.Outcomes.{gaps, equal, order, insert, remove, bulk_insert}
use Rattle.set.specs.Set.{held}
use Rattle.outcomes.specs.Numbers.{asked_in_c, counted_in_c, found_in_c, part_in_c, compared_in_c, totalled_in_c}
use Rattle.outcomes.specs.Stored.{places}
use Rattle.outcomes.specs.Sets.{if_set, if_sets, pairs, formed_set, SoundSet, intersection, union, total_of}
use Rattle.outcomes.specs.declared.Applied.{Applied}
use Rattle.outcomes.specs.declared.Count.{Count}
use Rattle.outcomes.specs.declared.Order.{Order}
use Rattle.outcomes.specs.declared.Range.{Range}
use Rattle.outcomes.specs.declared.Stretch.{Stretch}
use Rattle.outcomes.specs.declared.Told.{Told}
use Rattle.outcomes.specs.declared.Total.{Total}
use Rattle.set.specs.declared.RangeSet.{RangeSet}
use Rattle.std.specs.Prelude.{Err}

-- `range_set_new`: a new set, which covers nothing.
abbrev pub RangeSetNew : RangeSet → Type 0
RangeSetNew r = held r ≡ clear half_open

-- `range_set_is_empty`: whether nothing is held.
abbrev pub RangeSetIsEmpty : RangeSet → Told → Type 0
RangeSetIsEmpty m r = r ≡ asked_in_c (if_set (held m) (is_empty half_open (held m)) Err)

-- `range_set_len`: how many ranges are held.
abbrev pub RangeSetLen : RangeSet → Count → Type 0
RangeSetLen m r = r ≡ counted_in_c (if_set (held m) (count_of half_open (held m)) Err)

-- `range_set_range_at`: the range at a place.
abbrev pub RangeSetRangeAt : RangeSet → ℕ → Range → Type 0
RangeSetRangeAt m place r = r ≡ found_in_c (if_set (held m) (range_at half_open (held m) place) Err)

-- `range_set_first`: the first range.
abbrev pub RangeSetFirst : RangeSet → Range → Type 0
RangeSetFirst m r = r ≡ found_in_c (if_set (held m) (first_of half_open (held m)) Err)

-- `range_set_last`: the last range.
abbrev pub RangeSetLast : RangeSet → Range → Type 0
RangeSetLast m r = r ≡ found_in_c (if_set (held m) (last_of half_open (held m)) Err)

-- `range_set_get`: the range that holds the key.
abbrev pub RangeSetGet : RangeSet → ℤ → Range → Type 0
RangeSetGet m key r = r ≡ found_in_c (if_set (held m) (lookup half_open (held m) key) Err)

-- `range_set_contains`: whether some range holds the key.
abbrev pub RangeSetContains : RangeSet → ℤ → Told → Type 0
RangeSetContains m key r = r ≡ asked_in_c (if_set (held m) (contains half_open (held m) key) Err)

-- `range_set_overlaps`: whether some range has a key of the query.
abbrev pub RangeSetOverlaps : RangeSet → ℤ → ℤ → Told → Type 0
RangeSetOverlaps m start end r = r ≡ asked_in_c (if_set (held m) (overlaps half_open (held m) start end) Err)

-- `range_set_overlapping`: which consecutive stored part meets the query.
abbrev pub RangeSetOverlapping : RangeSet → ℤ → ℤ → Stretch → Type 0
RangeSetOverlapping m start end r = r ≡ part_in_c (if_set (held m) (overlapping half_open (held m) start end) Err)

-- `range_set_gaps`: the maximal uncovered ranges inside start..end, into the first places of two lent lists.
abbrev pub RangeSetGaps : RangeSet → ℤ → ℤ → List ℤ → List ℤ → List ℤ → List ℤ → Count → Type 0
RangeSetGaps m start end outStarts outStarts' outEnds outEnds' r =
    Listed r outStarts' outEnds' (if_set (held m) (gaps half_open (held m) start end outStarts outEnds) (λ why. not_written why outStarts outEnds))

-- `range_set_eq`: whether two sets hold the same ranges.
abbrev pub RangeSetEq : RangeSet → RangeSet → Told → Type 0
RangeSetEq a b r = r ≡ asked_in_c (if_sets (held a) (held b) (equal half_open (held a) (held b)) Err)

-- `range_set_cmp`: which of two sets comes first: -1, 0 or 1.
abbrev pub RangeSetCmp : RangeSet → RangeSet → Order → Type 0
RangeSetCmp a b r = r ≡ compared_in_c (if_sets (held a) (held b) (order half_open (held a) (held b)) Err)

-- `range_set_insert`: covers each instant of start..end, and no other.
abbrev pub RangeSetInsert : RangeSet → RangeSet → ℤ → ℤ → ℕ → Type 0
RangeSetInsert m m' start end r = leaving r (held m') ≡ if_set (held m) (insert half_open (held m) start end 0) (λ why. leaving (number why) (held m))

-- `range_set_remove`: uncovers exactly the instants of start..end.
abbrev pub RangeSetRemove : RangeSet → RangeSet → ℤ → ℤ → ℕ → Type 0
RangeSetRemove m m' start end r = leaving r (held m') ≡ if_set (held m) (remove half_open (held m) start end) (λ why. leaving (number why) (held m))

-- `range_set_extend`: inserts the ranges of two lent lists in order, up to the first refusal.
abbrev pub RangeSetExtend : RangeSet → RangeSet → List ℤ → List ℤ → Applied → Type 0
RangeSetExtend m m' starts ends r =
    extended r (held m') ≡ if_set (held m) (bulk_insert half_open (held m) (pairs starts ends))
    (λ why. extended (record { answer = number why; applied = 0 }) (held m))

-- `range_set_clear`: leaves nothing covered, whatever the set was.
abbrev pub RangeSetClear : RangeSet → RangeSet → Type 0
RangeSetClear m m' = held m' ≡ clear half_open

-- `range_set_well_formed`: whether a set is well formed. Where it is, it is what an unchecked door requires, and has all its places.
abbrev pub RangeSetWellFormed : RangeSet → Bool → Type 0
RangeSetWellFormed m r = (r ≡ formed_set half_open (held m)) × (r ≡ true → SoundSet half_open (held m) × (length m.stored.starts ≡ places))

-- `range_set_intersection`: the common points of two sets as maximal ranges, into the first places of two lent lists.
abbrev pub RangeSetIntersection : RangeSet → RangeSet → List ℤ → List ℤ → List ℤ → List ℤ → Count → Type 0
RangeSetIntersection a b outStarts outStarts' outEnds outEnds' r = Listed r outStarts' outEnds' (intersection half_open (held a) (held b) outStarts outEnds)

-- `range_set_union`: the points of either set, into the first places of two lent lists. Ranges that only touch across the two sets stay apart.
abbrev pub RangeSetUnion : RangeSet → RangeSet → List ℤ → List ℤ → List ℤ → List ℤ → Count → Type 0
RangeSetUnion a b outStarts outStarts' outEnds outEnds' r = Listed r outStarts' outEnds' (union half_open (held a) (held b) outStarts outEnds)

-- `range_set_total`: how many keys are covered, as a u64; 9 if that is over 2^64 - 1.
abbrev pub RangeSetTotal : RangeSet → Total → Type 0
RangeSetTotal m r = r ≡ totalled_in_c (total_of half_open (held m))
