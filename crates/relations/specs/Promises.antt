-- WHAT EACH EXPORTED RELATION OF RANGES PROMISES.
-- Each is over what a caller sees: what is lent, at entry and (with a prime) at exit; the other arguments; and last the answer as C and Rust have it.
use Rattle.std.specs.Prelude.{◌≡◌, ℤ}
use Rattle.key.specs.Range.{half_open, inclusive}
use Rattle.relations.specs.Relations.{range_contains, relation_in_c, ranges_overlap, ranges_touch, ranges_intersect, common_in_c}
use Rattle.relations.specs.declared.Intersected.{Intersected}
use Rattle.relations.specs.declared.Related.{Related}

-- `range_contains`: whether the key is in start..end.
abbrev pub RangeContains : ℤ → ℤ → ℤ → Related → Type 0
RangeContains start end key r = r ≡ relation_in_c (range_contains half_open start end key)

-- `range_overlaps`: whether a key is in both ranges.
abbrev pub RangeOverlaps : ℤ → ℤ → ℤ → ℤ → Related → Type 0
RangeOverlaps start end otherStart otherEnd r = r ≡ relation_in_c (ranges_overlap half_open start end otherStart otherEnd)

-- `range_touches`: whether nothing lies between the two ranges; so ranges that overlap touch too.
abbrev pub RangeTouches : ℤ → ℤ → ℤ → ℤ → Related → Type 0
RangeTouches start end otherStart otherEnd r = r ≡ relation_in_c (ranges_touch half_open start end otherStart otherEnd)

-- `range_intersect`: the keys of both ranges, from the greater start to the lesser end, or 5.
abbrev pub RangeIntersect : ℤ → ℤ → ℤ → ℤ → Intersected → Type 0
RangeIntersect start end otherStart otherEnd r = r ≡ common_in_c (ranges_intersect half_open start end otherStart otherEnd)

-- `range_inclusive_contains`: whether the key is in start..=end.
abbrev pub RangeInclusiveContains : ℤ → ℤ → ℤ → Related → Type 0
RangeInclusiveContains start end key r = r ≡ relation_in_c (range_contains inclusive start end key)

-- `range_inclusive_overlaps`: whether a key is in both ranges.
abbrev pub RangeInclusiveOverlaps : ℤ → ℤ → ℤ → ℤ → Related → Type 0
RangeInclusiveOverlaps start end otherStart otherEnd r = r ≡ relation_in_c (ranges_overlap inclusive start end otherStart otherEnd)

-- `range_inclusive_touches`: whether nothing lies between the two ranges; so ranges that overlap touch too.
abbrev pub RangeInclusiveTouches : ℤ → ℤ → ℤ → ℤ → Related → Type 0
RangeInclusiveTouches start end otherStart otherEnd r = r ≡ relation_in_c (ranges_touch inclusive start end otherStart otherEnd)

-- `range_inclusive_intersect`: the keys of both ranges, from the greater start to the lesser end, or 5.
abbrev pub RangeInclusiveIntersect : ℤ → ℤ → ℤ → ℤ → Intersected → Type 0
RangeInclusiveIntersect start end otherStart otherEnd r = r ≡ common_in_c (ranges_intersect inclusive start end otherStart otherEnd)
