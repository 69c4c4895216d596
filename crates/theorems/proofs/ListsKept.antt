-- LENT LISTS ARE KEPT, of every exported function that writes into them: refused, they are as they were and the count is 0; places past the count always are.
use Prim.Native.Nat.{ℕ}
use mathlib.Core.Bool.{◌&&◌}
use mathlib.Core.List.{List}
use lib.Dec.{ltb}
use lib.IntN.{ℤ}
use Rattle.answers.specs.declared.Refusal.TheVariants.{EmptyRange, NotFormed, BadQuery}
use Rattle.key.specs.Rank.{rank}
use Rattle.key.specs.Range.{Kind, half_open, inclusive, span_of, empty}
use Rattle.outcomes.specs.declared.Stored.{Stored}
use Rattle.outcomes.specs.Outcomes.{not_written, gaps_sound, formed, into_lists}
use Rattle.outcomes.specs.declared.Count.{Count}
use Rattle.one_map.proofs.Refusals.{Kept, unwritten_kept, writing_kept, kept_either, gaps_kept, intersection_kept, union_kept, write_kept}
use Rattle.one_map.proofs.SetRefusals.{set_gaps_kept}
use Rattle.query_text.specs.Reader.{Read, got, bad, query_of}
use Rattle.query.specs.Answers.{by_query, result_of, query_ranges_sound, query_ranges}
use Rattle.map.specs.declared.RangeMap.{RangeMap}
use Rattle.map.specs.Map as Map
use Rattle.map.specs.Promises.{RangeMapGaps, RangeMapGapsUnchecked}
use Rattle.inclusive_map.specs.declared.RangeInclusiveMap.{RangeInclusiveMap}
use Rattle.inclusive_map.specs.Map as InclusiveMap
use Rattle.inclusive_map.specs.Promises.{RangeInclusiveMapGaps, RangeInclusiveMapGapsUnchecked}
use Rattle.set.specs.declared.RangeSet.{RangeSet}
use Rattle.set.specs.Set as Set
use Rattle.set.specs.Promises.{RangeSetGaps, RangeSetIntersection, RangeSetUnion}
use Rattle.inclusive_set.specs.declared.RangeInclusiveSet.{RangeInclusiveSet}
use Rattle.inclusive_set.specs.Set as InclusiveSet
use Rattle.inclusive_set.specs.Promises.{RangeInclusiveSetGaps, RangeInclusiveSetIntersection, RangeInclusiveSetUnion}
use Rattle.map_bytes.specs.Promises.{RangeMapWrite}
use Rattle.map_query.specs.Promises.{RangeMapQuery, RangeMapQueryUnchecked}
use Rattle.theorems.proofs.Refused.{ListsKept, lists_kept, OutputKept, output_kept}

-- the unchecked door of gaps
gaps_sound_kept : (kind : Kind) (m : Stored) (s e : ℤ) (os oe : List ℤ) → Kept (gaps_sound kind m s e os oe) os oe
unfolding gaps_sound
gaps_sound_kept kind m s e os oe = kept_either (empty (span_of kind s e 0)) (unwritten_kept EmptyRange os oe) (writing_kept kind _ os oe)

-- a query, of well-formed maps and of any
query_sound_kept : (a b : Stored) (s e : ℤ) (bytes : List ℕ) (os oe : List ℤ) → Kept (query_ranges_sound a b s e bytes os oe) os oe
unfolding query_ranges_sound
query_sound_kept a b s e bytes os oe = kept_either (ltb (rank s) (rank e)) (of_read (query_of bytes)) (unwritten_kept EmptyRange os oe)
  where
    of_read : (x : Read) → Kept (by_query x (λ q. into_lists half_open (result_of a b s e q) os oe) (not_written BadQuery os oe)) os oe
    of_read (got q rest) = writing_kept half_open (result_of a b s e q) os oe
    of_read bad = unwritten_kept BadQuery os oe

query_kept : (a b : Stored) (s e : ℤ) (bytes : List ℕ) (os oe : List ℤ) → Kept (query_ranges a b s e bytes os oe) os oe
unfolding query_ranges
query_kept a b s e bytes os oe = kept_either (formed half_open a && formed half_open b) (query_sound_kept a b s e bytes os oe) (unwritten_kept NotFormed os oe)

module _ (os os' oe oe' : List ℤ) (r : Count) where
  -- gaps of a half-open map
  pub range_map_gaps_kept : (m : RangeMap) (start end : ℤ) → RangeMapGaps m start end os os' oe oe' r → ListsKept r os os' oe oe'
  range_map_gaps_kept m start end q = lists_kept _ r os os' oe oe' (gaps_kept half_open os oe (Map.held m) start end) q

  -- through the unchecked door
  pub range_map_gaps_unchecked_kept : (m : RangeMap) (start end : ℤ) → RangeMapGapsUnchecked m start end os os' oe oe' r
      → ListsKept r os os' oe oe'
  range_map_gaps_unchecked_kept m start end q = lists_kept _ r os os' oe oe' (gaps_sound_kept half_open (Map.held m) start end os oe) q

  -- gaps of an inclusive map
  pub range_inclusive_map_gaps_kept : (m : RangeInclusiveMap) (start end : ℤ) → RangeInclusiveMapGaps m start end os os' oe oe' r → ListsKept r os os' oe oe'
  range_inclusive_map_gaps_kept m start end q = lists_kept _ r os os' oe oe' (gaps_kept inclusive os oe (InclusiveMap.held m) start end) q

  -- through the unchecked door
  pub range_inclusive_map_gaps_unchecked_kept : (m : RangeInclusiveMap) (start end : ℤ) → RangeInclusiveMapGapsUnchecked m start end os os' oe oe' r
      → ListsKept r os os' oe oe'
  range_inclusive_map_gaps_unchecked_kept m start end q = lists_kept _ r os os' oe oe' (gaps_sound_kept inclusive (InclusiveMap.held m) start end os oe) q

  -- gaps of a set of half-open ranges
  pub range_set_gaps_kept : (m : RangeSet) (start end : ℤ) → RangeSetGaps m start end os os' oe oe' r → ListsKept r os os' oe oe'
  range_set_gaps_kept m start end q = lists_kept _ r os os' oe oe' (set_gaps_kept half_open (Set.held m) start end os oe) q

  -- intersection of two such sets
  pub range_set_intersection_kept : (a b : RangeSet) → RangeSetIntersection a b os os' oe oe' r → ListsKept r os os' oe oe'
  range_set_intersection_kept a b q = lists_kept _ r os os' oe oe' (intersection_kept half_open os oe (Set.held a) (Set.held b)) q

  -- union of two such sets
  pub range_set_union_kept : (a b : RangeSet) → RangeSetUnion a b os os' oe oe' r → ListsKept r os os' oe oe'
  range_set_union_kept a b q = lists_kept _ r os os' oe oe' (union_kept half_open os oe (Set.held a) (Set.held b)) q

  -- gaps of a set of inclusive ranges
  pub range_inclusive_set_gaps_kept : (m : RangeInclusiveSet) (start end : ℤ) → RangeInclusiveSetGaps m start end os os' oe oe' r → ListsKept r os os' oe oe'
  range_inclusive_set_gaps_kept m start end q = lists_kept _ r os os' oe oe' (set_gaps_kept inclusive (InclusiveSet.held m) start end os oe) q

  -- intersection of two such sets
  pub range_inclusive_set_intersection_kept : (a b : RangeInclusiveSet) → RangeInclusiveSetIntersection a b os os' oe oe' r → ListsKept r os os' oe oe'
  range_inclusive_set_intersection_kept a b q = lists_kept _ r os os' oe oe' (intersection_kept inclusive os oe (InclusiveSet.held a) (InclusiveSet.held b)) q

  -- union of two such sets
  pub range_inclusive_set_union_kept : (a b : RangeInclusiveSet) → RangeInclusiveSetUnion a b os os' oe oe' r → ListsKept r os os' oe oe'
  range_inclusive_set_union_kept a b q = lists_kept _ r os os' oe oe' (union_kept inclusive os oe (InclusiveSet.held a) (InclusiveSet.held b)) q

  -- a query
  pub range_map_query_kept : (a b : RangeMap) (start end : ℤ) (bytes : List ℕ) → RangeMapQuery a b start end bytes os os' oe oe' r → ListsKept r os os' oe oe'
  range_map_query_kept a b start end bytes q = lists_kept _ r os os' oe oe' (query_kept (Map.held a) (Map.held b) start end bytes os oe) q

  -- through the unchecked door
  pub range_map_query_unchecked_kept : (a b : RangeMap) (start end : ℤ) (bytes : List ℕ) → RangeMapQueryUnchecked a b start end bytes os os' oe oe' r
      → ListsKept r os os' oe oe'
  range_map_query_unchecked_kept a b start end bytes q = lists_kept _ r os os' oe oe' (query_sound_kept (Map.held a) (Map.held b) start end bytes os oe) q

-- the writer of bytes
pub range_map_write_kept : (m : RangeMap) (out out' : List ℕ) (r : Count) → RangeMapWrite m out out' r → OutputKept r out out'
range_map_write_kept m out out' r q = output_kept _ r out out' (write_kept (Map.held m) out) q
