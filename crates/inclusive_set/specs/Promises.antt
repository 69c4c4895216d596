-- WHAT EACH EXPORTED FUNCTION OF A SET OF INCLUSIVE RANGES PROMISES, in document 01's order.
-- Each is over what a caller sees: what is lent, at entry and (with a prime) at exit; the other arguments; and last the answer as C and Rust have it.
use Rattle.answers.specs.Refusals.{number}
use Rattle.std.specs.Prelude.{ℕ, ◌≡◌, List, Bool, true, length, ℤ}
use Rattle.key.specs.Range.{inclusive}
use Rattle.outcomes.specs.Outcomes.{not_written}
use Rattle.outcomes.specs.Outcomes.{clear, Listed, leaving, extended, is_empty, count_of, range_at, first_of, last_of, lookup, contains, overlaps, overlapping}
use Rattle.outcomes.specs.Outcomes.{gaps, equal, order, insert, remove, bulk_insert}
use Rattle.inclusive_set.specs.Set.{held}
use Rattle.outcomes.specs.Numbers.{asked_in_c, counted_in_c, found_in_c, part_in_c, compared_in_c, totalled_in_c}
use Rattle.outcomes.specs.Stored.{places}
use Rattle.outcomes.specs.Sets.{if_set, if_sets, pairs, formed_set, SoundSet, intersection, union, total_of}
use Rattle.inclusive_set.specs.declared.RangeInclusiveSet.{RangeInclusiveSet}
use Rattle.outcomes.specs.declared.Applied.{Applied}
use Rattle.outcomes.specs.declared.Count.{Count}
use Rattle.outcomes.specs.declared.Order.{Order}
use Rattle.outcomes.specs.declared.Range.{Range}
use Rattle.outcomes.specs.declared.Stretch.{Stretch}
use Rattle.outcomes.specs.declared.Told.{Told}
use Rattle.outcomes.specs.declared.Total.{Total}
use Rattle.std.specs.Prelude.{Err}

-- `range_inclusive_set_new`: a new set, which covers nothing.
abbrev pub RangeInclusiveSetNew : RangeInclusiveSet → Type 0
RangeInclusiveSetNew r = held r ≡ clear inclusive

-- `range_inclusive_set_is_empty`: whether nothing is held.
abbrev pub RangeInclusiveSetIsEmpty : RangeInclusiveSet → Told → Type 0
RangeInclusiveSetIsEmpty m r = r ≡ asked_in_c (if_set (held m) (is_empty inclusive (held m)) Err)

-- `range_inclusive_set_len`: how many ranges are held.
abbrev pub RangeInclusiveSetLen : RangeInclusiveSet → Count → Type 0
RangeInclusiveSetLen m r = r ≡ counted_in_c (if_set (held m) (count_of inclusive (held m)) Err)

-- `range_inclusive_set_range_at`: the range at a place.
abbrev pub RangeInclusiveSetRangeAt : RangeInclusiveSet → ℕ → Range → Type 0
RangeInclusiveSetRangeAt m place r = r ≡ found_in_c (if_set (held m) (range_at inclusive (held m) place) Err)

-- `range_inclusive_set_first`: the first range.
abbrev pub RangeInclusiveSetFirst : RangeInclusiveSet → Range → Type 0
RangeInclusiveSetFirst m r = r ≡ found_in_c (if_set (held m) (first_of inclusive (held m)) Err)

-- `range_inclusive_set_last`: the last range.
abbrev pub RangeInclusiveSetLast : RangeInclusiveSet → Range → Type 0
RangeInclusiveSetLast m r = r ≡ found_in_c (if_set (held m) (last_of inclusive (held m)) Err)

-- `range_inclusive_set_get`: the range that holds the key.
abbrev pub RangeInclusiveSetGet : RangeInclusiveSet → ℤ → Range → Type 0
RangeInclusiveSetGet m key r = r ≡ found_in_c (if_set (held m) (lookup inclusive (held m) key) Err)

-- `range_inclusive_set_contains`: whether some range holds the key.
abbrev pub RangeInclusiveSetContains : RangeInclusiveSet → ℤ → Told → Type 0
RangeInclusiveSetContains m key r = r ≡ asked_in_c (if_set (held m) (contains inclusive (held m) key) Err)

-- `range_inclusive_set_overlaps`: whether some range has a key of the query.
abbrev pub RangeInclusiveSetOverlaps : RangeInclusiveSet → ℤ → ℤ → Told → Type 0
RangeInclusiveSetOverlaps m start end r = r ≡ asked_in_c (if_set (held m) (overlaps inclusive (held m) start end) Err)

-- `range_inclusive_set_overlapping`: which consecutive stored part meets the query.
abbrev pub RangeInclusiveSetOverlapping : RangeInclusiveSet → ℤ → ℤ → Stretch → Type 0
RangeInclusiveSetOverlapping m start end r = r ≡ part_in_c (if_set (held m) (overlapping inclusive (held m) start end) Err)

-- `range_inclusive_set_gaps`: the maximal uncovered ranges inside start..=end, into the first places of two lent lists.
abbrev pub RangeInclusiveSetGaps : RangeInclusiveSet → ℤ → ℤ → List ℤ → List ℤ → List ℤ → List ℤ → Count → Type 0
RangeInclusiveSetGaps m start end outStarts outStarts' outEnds outEnds' r =
    Listed r outStarts' outEnds' (if_set (held m) (gaps inclusive (held m) start end outStarts outEnds) (λ why. not_written why outStarts outEnds))

-- `range_inclusive_set_eq`: whether two sets hold the same ranges.
abbrev pub RangeInclusiveSetEq : RangeInclusiveSet → RangeInclusiveSet → Told → Type 0
RangeInclusiveSetEq a b r = r ≡ asked_in_c (if_sets (held a) (held b) (equal inclusive (held a) (held b)) Err)

-- `range_inclusive_set_cmp`: which of two sets comes first: -1, 0 or 1.
abbrev pub RangeInclusiveSetCmp : RangeInclusiveSet → RangeInclusiveSet → Order → Type 0
RangeInclusiveSetCmp a b r = r ≡ compared_in_c (if_sets (held a) (held b) (order inclusive (held a) (held b)) Err)

-- `range_inclusive_set_insert`: covers each instant of start..=end, and no other.
abbrev pub RangeInclusiveSetInsert : RangeInclusiveSet → RangeInclusiveSet → ℤ → ℤ → ℕ → Type 0
RangeInclusiveSetInsert m m' start end r = leaving r (held m') ≡ if_set (held m) (insert inclusive (held m) start end 0) (λ why. leaving (number why) (held m))

-- `range_inclusive_set_remove`: uncovers exactly the instants of start..=end.
abbrev pub RangeInclusiveSetRemove : RangeInclusiveSet → RangeInclusiveSet → ℤ → ℤ → ℕ → Type 0
RangeInclusiveSetRemove m m' start end r = leaving r (held m') ≡ if_set (held m) (remove inclusive (held m) start end) (λ why. leaving (number why) (held m))

-- `range_inclusive_set_extend`: inserts the ranges of two lent lists in order, up to the first refusal.
abbrev pub RangeInclusiveSetExtend : RangeInclusiveSet → RangeInclusiveSet → List ℤ → List ℤ → Applied → Type 0
RangeInclusiveSetExtend m m' starts ends r =
    extended r (held m') ≡ if_set (held m) (bulk_insert inclusive (held m) (pairs starts ends))
    (λ why. extended (record { answer = number why; applied = 0 }) (held m))

-- `range_inclusive_set_clear`: leaves nothing covered, whatever the set was.
abbrev pub RangeInclusiveSetClear : RangeInclusiveSet → RangeInclusiveSet → Type 0
RangeInclusiveSetClear m m' = held m' ≡ clear inclusive

-- `range_inclusive_set_well_formed`: whether a set is well formed. Where it is, it is what an unchecked door requires, and has all its places.
abbrev pub RangeInclusiveSetWellFormed : RangeInclusiveSet → Bool → Type 0
RangeInclusiveSetWellFormed m r = (r ≡ formed_set inclusive (held m)) × (r ≡ true → SoundSet inclusive (held m) × (length m.stored.starts ≡ places))

-- `range_inclusive_set_intersection`: the common points of two sets as maximal ranges, into the first places of two lent lists.
abbrev pub RangeInclusiveSetIntersection : RangeInclusiveSet → RangeInclusiveSet → List ℤ → List ℤ → List ℤ → List ℤ → Count → Type 0
RangeInclusiveSetIntersection a b outStarts outStarts' outEnds outEnds' r =
    Listed r outStarts' outEnds' (intersection inclusive (held a) (held b) outStarts outEnds)

-- `range_inclusive_set_union`: the points of either set, into the first places of two lent lists. Ranges that only touch across the two sets stay apart.
abbrev pub RangeInclusiveSetUnion : RangeInclusiveSet → RangeInclusiveSet → List ℤ → List ℤ → List ℤ → List ℤ → Count → Type 0
RangeInclusiveSetUnion a b outStarts outStarts' outEnds outEnds' r = Listed r outStarts' outEnds' (union inclusive (held a) (held b) outStarts outEnds)

-- `range_inclusive_set_total`: how many keys are covered, as a u64; 9 if that is over 2^64 - 1.
abbrev pub RangeInclusiveSetTotal : RangeInclusiveSet → Total → Type 0
RangeInclusiveSetTotal m r = r ≡ totalled_in_c (total_of inclusive (held m))
