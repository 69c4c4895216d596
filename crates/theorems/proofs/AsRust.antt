-- EQUAL TO THE RUST, of the promises: after any calls from a new struct, each further call and each question of it answers, and leaves, what rangemap's own
-- algorithms do on the ranges that the struct holds. `rust` are these algorithms (`half_open_rust`, `inclusive_rust`), and `same` is `half_open_equal`,
-- `inclusive_equal_checked` or `inclusive_equal_wrapping`. An edit answers 1 where the Rust panics, and 2 where it would hold more ranges than
-- there are places.
use Prim.Native.Nat.{ℕ}
use mathlib.Core.Path.{◌≡◌, refl, sym, ap, subst, ◌∙◌}
use mathlib.Core.Logic.{◌⊎◌}
use mathlib.Core.Bool.{Bool, true, false, cond}
use mathlib.Core.List.{List, [], ◌∷◌}
use mathlib.Core.Option.{Option, some, none}
use lib.Dec.{eqb}
use lib.ListN.{take}
use lib.IntN.{ℤ}
use borrow.Author.Tests.{eqb-true}
use Rattle.std.specs.Prelude.{Err}
use Rattle.answers.specs.Answers.{done}
use Rattle.answers.specs.Refusals.{number}
use Rattle.span.specs.Span.{Span}
use Rattle.key.specs.Range.{Kind, half_open, inclusive}
use Rattle.key.proofs.Lawful.{Lawful, half_open_lawful, inclusive_too}
use Rattle.outcomes.specs.Stored.{places, ranges}
use Rattle.outcomes.specs.declared.Stored.{Stored}
use Rattle.outcomes.specs.Outcomes.{not_written, Edited, Written, Listed, leaving, edit, edits, Extended, bulk_insert, bulk_insert_sound, entries, extended}
use Rattle.key.specs.declared.Entry.{Entry}
use Rattle.outcomes.specs.Outcomes.{is_empty, count_of, range_at, first_of, last_of, lookup, contains, overlaps, overlapping, gaps, equal, order, insert, remove}
use Rattle.outcomes.specs.Outcomes.{edit_sound}
use Rattle.outcomes.specs.Numbers.{asked_in_c, counted_in_c, found_in_c, part_in_c, compared_in_c}
use Rattle.outcomes.specs.Sets.{if_set, if_sets, pairs, union, intersection}
use Rattle.outcomes.specs.declared.Applied.{Applied}
use Rattle.outcomes.specs.Answered.{Asked, Counted, Found, Located}
use Rattle.outcomes.specs.declared.Count.{Count}
use Rattle.rust_algorithm.specs.Answers.{Functions, rust_edited, rust_run}
use Rattle.rust_algorithm.specs.Equal.{LentMap, ListGiven, EqualToTheRust, entry_spans}
use Rattle.one_map.specs.Events.{Proper}
use Rattle.one_map.specs.SetEvents.{set_insert_event, set_remove_event}
use Rattle.one_map.proofs.Known.{proper_formed}
use Rattle.one_map.proofs.SetHistories.{set_as_map}
use Rattle.map.specs.declared.RangeMap.{RangeMap}
use Rattle.map.specs.Map as Map
use Rattle.map.specs.Promises.{RangeMapCmp, RangeMapContainsKey, RangeMapEq, RangeMapFirstRangeValue, RangeMapGaps, RangeMapGetKeyValue, RangeMapIsEmpty}
use Rattle.map.specs.Promises.{RangeMapExtend, RangeMapLastRangeValue, RangeMapLen, RangeMapOverlapping, RangeMapOverlaps, RangeMapRangeAt}
use Rattle.inclusive_map.specs.declared.RangeInclusiveMap.{RangeInclusiveMap}
use Rattle.inclusive_map.specs.Map as InclusiveMap
use Rattle.inclusive_map.specs.Promises.{RangeInclusiveMapCmp, RangeInclusiveMapContainsKey, RangeInclusiveMapEq, RangeInclusiveMapFirstRangeValue}
use Rattle.inclusive_map.specs.Promises.{RangeInclusiveMapGaps, RangeInclusiveMapGetKeyValue, RangeInclusiveMapIsEmpty, RangeInclusiveMapLastRangeValue}
use Rattle.inclusive_map.specs.Promises.{RangeInclusiveMapExtend, RangeInclusiveMapLen, RangeInclusiveMapOverlapping, RangeInclusiveMapOverlaps}
use Rattle.inclusive_map.specs.Promises.{RangeInclusiveMapRangeAt}
use Rattle.set.specs.declared.RangeSet.{RangeSet}
use Rattle.set.specs.Set as Set
use Rattle.set.specs.Promises.{RangeSetIsEmpty, RangeSetLen, RangeSetRangeAt, RangeSetFirst, RangeSetLast, RangeSetGet, RangeSetContains, RangeSetOverlaps}
use Rattle.set.specs.Promises.{RangeSetOverlapping, RangeSetGaps, RangeSetEq, RangeSetCmp, RangeSetInsert, RangeSetRemove, RangeSetExtend, RangeSetUnion}
use Rattle.set.specs.Promises.{RangeSetIntersection}
use Rattle.inclusive_set.specs.declared.RangeInclusiveSet.{RangeInclusiveSet}
use Rattle.inclusive_set.specs.Set as InclusiveSet
use Rattle.inclusive_set.specs.Promises.{RangeInclusiveSetIsEmpty, RangeInclusiveSetLen, RangeInclusiveSetRangeAt, RangeInclusiveSetFirst}
use Rattle.inclusive_set.specs.Promises.{RangeInclusiveSetLast, RangeInclusiveSetGet, RangeInclusiveSetContains, RangeInclusiveSetOverlaps}
use Rattle.inclusive_set.specs.Promises.{RangeInclusiveSetOverlapping, RangeInclusiveSetGaps, RangeInclusiveSetEq, RangeInclusiveSetCmp}
use Rattle.inclusive_set.specs.Promises.{RangeInclusiveSetInsert, RangeInclusiveSetRemove, RangeInclusiveSetExtend, RangeInclusiveSetUnion}
use Rattle.inclusive_set.specs.Promises.{RangeInclusiveSetIntersection}
use Rattle.theorems.specs.Calls.{Call, insert_call, remove_call, SetCall}
use Rattle.theorems.specs.Structs.{RangeMapCall, RangeMapAfter, RangeInclusiveMapCall, RangeInclusiveMapAfter, RangeSetAfter, RangeInclusiveSetAfter}
use Rattle.theorems.specs.Rust.{EditAsRust, ExtendAsRust, LenAsRust, IsEmptyAsRust, RangeAtAsRust, FirstAsRust, LastAsRust, GetAsRust, ContainsAsRust}
use Rattle.theorems.specs.Rust.{OverlapsAsRust, OverlappingAsRust, GapsAsRust, EqAsRust, CmpAsRust, UnionAsRust, IntersectionAsRust, WrittenAsRust}
use Rattle.theorems.proofs.Steps.{either_door, as_bulk}
use Rattle.theorems.proofs.Histories.{range_map_proper, range_inclusive_map_proper, GoodSet, range_set_good, range_inclusive_set_good}

-- WHAT A STRUCT ANSWERS to each question
record StructAnswers : Type 0 where
  len : Counted
  is_empty_lem : Asked
  range_at : ℕ → Found
  first : Found
  last : Found
  get : ℤ → Found
  contains : ℤ → Asked
  overlaps : ℤ → ℤ → Asked
  overlapping : ℤ → ℤ → Located
  gaps : ℤ → ℤ → List ℤ → List ℤ → Written

-- THE LAW, for any struct: its answers, as C has them, are the Rust's on the ranges of m
record AnswersAsRust (kind : Kind) (rust : Functions) (m : Stored) (a : StructAnswers) : Type 0 where
  len : LenAsRust kind rust m (λ r. r ≡ counted_in_c a.len)
  is_empty_lem : IsEmptyAsRust kind rust m (λ r. r ≡ asked_in_c a.is_empty_lem)
  range_at : RangeAtAsRust kind rust m (λ i r. r ≡ found_in_c (a.range_at i))
  first : FirstAsRust kind rust m (λ r. r ≡ found_in_c a.first)
  last : LastAsRust kind rust m (λ r. r ≡ found_in_c a.last)
  get : GetAsRust kind rust m (λ k r. r ≡ found_in_c (a.get k))
  contains : ContainsAsRust kind rust m (λ k r. r ≡ asked_in_c (a.contains k))
  overlaps : OverlapsAsRust kind rust m (λ s e r. r ≡ asked_in_c (a.overlaps s e))
  overlapping : OverlappingAsRust kind rust m (λ s e r. r ≡ part_in_c (a.overlapping s e))
  gaps : GapsAsRust kind rust m (λ s e os os' oe oe' r. Listed r os' oe' (a.gaps s e os oe))

-- those of two maps
record MapsAsRust (kind : Kind) (rust : Functions) (m o : Stored) : Type 0 where
  eq : EqAsRust kind rust m o (λ r. r ≡ asked_in_c (equal kind m o))
  cmp : CmpAsRust kind rust m o (λ r. r ≡ compared_in_c (order kind m o))

-- and of two sets
record SetsAsRust (kind : Kind) (rust : Functions) (m o : Stored) : Type 0 where
  eq : EqAsRust kind rust m o (λ r. r ≡ asked_in_c (if_sets m o (equal kind m o) Err))
  cmp : CmpAsRust kind rust m o (λ r. r ≡ compared_in_c (if_sets m o (order kind m o) Err))
  union : UnionAsRust kind rust m o (λ os os' oe oe' r. Listed r os' oe' (union kind m o os oe))
  intersection : IntersectionAsRust kind rust m o (λ os os' oe oe' r. Listed r os' oe' (intersection kind m o os oe))

-- a map's answers
abbrev map_answers : Kind → Stored → StructAnswers
map_answers kind m = record {
  len = count_of kind m;
  is_empty_lem = is_empty kind m;
  range_at = range_at kind m;
  first = first_of kind m;
  last = last_of kind m;
  get = lookup kind m;
  contains = contains kind m;
  overlaps = overlaps kind m;
  overlapping = overlapping kind m;
  gaps = gaps kind m;
}

-- a map that calls leave is lent as the theorem of the Rust wants it
proper_lent : {kind : Kind} {m : Stored} → Proper kind m → LentMap kind m
proper_lent p = record { sound = p.sound; full_size = p.all_places }

-- a list that the Rust gave is written
written_as_rust : {kind : Kind} {given : Option (List Span)} {os os' oe oe' : List ℤ} {r : Count} {w : Written} → ListGiven kind given os oe w
    → Listed r os' oe' w → WrittenAsRust kind given os os' oe oe' r
written_as_rust {os' = os'} {oe' = oe'} {r = r} g q = (g.list, (g.gave, subst (Listed r os' oe') g.same q))

-- edits of which there is one
only_one : (a : Edited) → cond (eqb a.answer done) (leaving done a.left) a ≡ a
only_one a = go (eqb a.answer done) refl
  where
    go : (t : Bool) → eqb a.answer done ≡ t → cond t (leaving done a.left) a ≡ a
    go true e = ap (λ (n : ℕ). leaving n a.left) (sym (eqb-true a.answer done e))
    go false e = refl

module _ {kind : Kind} {rust : Functions} (same : EqualToTheRust kind rust) {m : Stored} (p : Proper kind m) where
  -- AN EDIT
  edit_as_rust : (s e : ℤ) (new : Option ℕ) → edit kind m s e new ≡ rust_edited kind rust m s e new
  unfolding edits rust_run
  edit_as_rust s e new =
      sym (only_one (edit kind m s e new)) ∙ same.every_edit m (record { start = s; end = e; new = new } ∷ []) (proper_lent p)
      ∙ only_one (rust_edited kind rust m s e new)

  -- through either door
  through_door : Lawful kind → (s e : ℤ) (new : Option ℕ) {r : ℕ} {m' : Stored}
      → (leaving r m' ≡ edit kind m s e new) ⊎ (leaving r m' ≡ edit_sound kind places m s e new) → EditAsRust kind rust m s e new r m'
  through_door law s e new q = either_door law p s e new q ∙ edit_as_rust s e new

  -- BULK INSERT
  extend_as_rust : (xs : List Entry) {m' : Stored} {r : Applied} → extended r m' ≡ bulk_insert kind m xs
      → ExtendAsRust kind rust m xs r m'
  extend_as_rust xs {m'} {r} q =
      let is : extended r m' ≡ bulk_insert_sound kind m 0 xs = q ∙ (unfold bulk_insert in rw (proper_formed p)) in
      subst (λ (o : Extended). rust.extend (entry_spans kind (take o.told.applied xs)) (ranges kind m) ≡ some (ranges kind o.left)) (sym is)
      (same.extend m xs (proper_lent p))

  -- EACH QUESTION
  map_as_rust : AnswersAsRust kind rust m (map_answers kind m)
  map_as_rust =
      let a = same.questions m (proper_lent p) in
      record {
        len = λ r q. q ∙ ap counted_in_c a.len;
        is_empty_lem = λ r q. q ∙ ap asked_in_c a.is_empty_lem;
        range_at = λ i r q. q ∙ ap found_in_c (a.iter i);
        first = λ r q. q ∙ ap found_in_c a.first;
        last = λ r q. q ∙ ap found_in_c a.last;
        get = λ k r q. q ∙ ap found_in_c (a.get_key_value k);
        contains = λ k r q. q ∙ ap asked_in_c (a.contains_key k);
        overlaps = λ s e r h q. q ∙ ap asked_in_c (a.overlaps s e h);
        overlapping = λ s e r h q. let g = a.overlapping s e h in rw (q ∙ ap part_in_c g.told) (refl, g.same);
        gaps = λ s e os os' oe oe' r h q. written_as_rust (a.gaps s e h os oe) q;
      }

  -- EQUALITY and ORDER
  maps_as_rust : {o : Stored} → Proper kind o → MapsAsRust kind rust m o
  maps_as_rust {o} p₂ =
      let a = same.order m o (proper_lent p) (proper_lent p₂) in
      record { eq = λ r q. q ∙ ap asked_in_c a.eq; cmp = λ r q. q ∙ ap compared_in_c a.cmp }

-- a set's answers
abbrev set_answers : Kind → Stored → StructAnswers
set_answers kind m = record {
  len = if_set m (count_of kind m) Err;
  is_empty_lem = if_set m (is_empty kind m) Err;
  range_at = λ i. if_set m (range_at kind m i) Err;
  first = if_set m (first_of kind m) Err;
  last = if_set m (last_of kind m) Err;
  get = λ k. if_set m (lookup kind m k) Err;
  contains = λ k. if_set m (contains kind m k) Err;
  overlaps = λ s e. if_set m (overlaps kind m s e) Err;
  overlapping = λ s e. if_set m (overlapping kind m s e) Err;
  gaps = λ s e os oe. if_set m (gaps kind m s e os oe) (λ why. not_written why os oe);
}

-- A SET'S FUNCTIONS ARE THE MAP'S where all values are 0
module _ {kind : Kind} {rust : Functions} (same : EqualToTheRust kind rust) {m : Stored} (g : GoodSet kind m) where
  -- insert
  set_insert_as_rust : (s e : ℤ) → if_set m (insert kind m s e 0) (λ why. leaving (number why) m) ≡ rust_edited kind rust m s e (some 0)
  set_insert_as_rust s e = set_as_map kind (set_insert_event s e) m g.1 ∙ edit_as_rust same g.0 s e (some 0)

  -- remove
  set_remove_as_rust : (s e : ℤ) → if_set m (remove kind m s e) (λ why. leaving (number why) m) ≡ rust_edited kind rust m s e none
  set_remove_as_rust s e = set_as_map kind (set_remove_event s e) m g.1 ∙ edit_as_rust same g.0 s e none

  -- bulk insert
  set_extend_as_rust : (xs : List Entry) {m' : Stored} {r : Applied} → extended r m' ≡ if_set m (bulk_insert kind m xs) (λ why. extended (record { answer = number why; applied = 0 }) m)
      → ExtendAsRust kind rust m xs r m'
  set_extend_as_rust xs q = extend_as_rust same g.0 xs (q ∙ as_bulk kind m xs g.1)

  -- each question
  set_as_rust : AnswersAsRust kind rust m (set_answers kind m)
  set_as_rust = rw g.1 (map_as_rust same g.0)

  -- of two
  sets_as_rust : {o : Stored} → GoodSet kind o → SetsAsRust kind rust m o
  sets_as_rust {o} h =
      let a = maps_as_rust same g.0 h.0 in
      let b = same.sets m o (record { sound = g.0.sound; plain_too = g.1 }) (record { sound = h.0.sound; plain_too = h.1 })
      (proper_lent g.0) (proper_lent h.0) in
      record {
        eq = rw (g.1, h.1) a.eq;
        cmp = rw (g.1, h.1) a.cmp;
        union = λ os os' oe oe' r q. written_as_rust (b.union os oe) q;
        intersection = λ os os' oe oe' r q. written_as_rust (b.intersection os oe) q;
      }

-- THE HALF-OPEN MAP
module _ (rust : Functions) (same : EqualToTheRust half_open rust) (cs : List Call) (n : RangeMap) (left : RangeMapAfter cs n) where
  -- INSERT and REMOVE, through either door: what they answer, and every place that they leave
  pub range_map_insert_as_rust : (n' : RangeMap) (s e : ℤ) (v r : ℕ) → RangeMapCall (insert_call s e v r) n n'
      → EditAsRust half_open rust (Map.held n) s e (some v) r (Map.held n')
  range_map_insert_as_rust n' s e v r q = through_door same (range_map_proper cs n left) half_open_lawful s e (some v) q

  pub range_map_remove_as_rust : (n' : RangeMap) (s e : ℤ) (r : ℕ) → RangeMapCall (remove_call s e r) n n'
      → EditAsRust half_open rust (Map.held n) s e none r (Map.held n')
  range_map_remove_as_rust n' s e r q = through_door same (range_map_proper cs n left) half_open_lawful s e none q

  -- BULK INSERT
  pub range_map_extend_as_rust : (n' : RangeMap) (ss es : List ℤ) (vs : List ℕ) (r : Applied) → RangeMapExtend n n' ss es vs r
      → ExtendAsRust half_open rust (Map.held n) (entries ss es vs) r (Map.held n')
  range_map_extend_as_rust n' ss es vs r q = extend_as_rust same (range_map_proper cs n left) (entries ss es vs) q

  -- EACH QUESTION
  pub range_map_len_as_rust : LenAsRust half_open rust (Map.held n) (RangeMapLen n)
  range_map_len_as_rust = (map_as_rust same (range_map_proper cs n left)).len

  pub range_map_is_empty_as_rust : IsEmptyAsRust half_open rust (Map.held n) (RangeMapIsEmpty n)
  range_map_is_empty_as_rust = (map_as_rust same (range_map_proper cs n left)).is_empty_lem

  pub range_map_range_at_as_rust : RangeAtAsRust half_open rust (Map.held n) (RangeMapRangeAt n)
  range_map_range_at_as_rust = (map_as_rust same (range_map_proper cs n left)).range_at

  pub range_map_first_as_rust : FirstAsRust half_open rust (Map.held n) (RangeMapFirstRangeValue n)
  range_map_first_as_rust = (map_as_rust same (range_map_proper cs n left)).first

  pub range_map_last_as_rust : LastAsRust half_open rust (Map.held n) (RangeMapLastRangeValue n)
  range_map_last_as_rust = (map_as_rust same (range_map_proper cs n left)).last

  pub range_map_get_as_rust : GetAsRust half_open rust (Map.held n) (RangeMapGetKeyValue n)
  range_map_get_as_rust = (map_as_rust same (range_map_proper cs n left)).get

  pub range_map_contains_as_rust : ContainsAsRust half_open rust (Map.held n) (RangeMapContainsKey n)
  range_map_contains_as_rust = (map_as_rust same (range_map_proper cs n left)).contains

  pub range_map_overlaps_as_rust : OverlapsAsRust half_open rust (Map.held n) (RangeMapOverlaps n)
  range_map_overlaps_as_rust = (map_as_rust same (range_map_proper cs n left)).overlaps

  pub range_map_overlapping_as_rust : OverlappingAsRust half_open rust (Map.held n) (RangeMapOverlapping n)
  range_map_overlapping_as_rust = (map_as_rust same (range_map_proper cs n left)).overlapping

  pub range_map_gaps_as_rust : GapsAsRust half_open rust (Map.held n) (RangeMapGaps n)
  range_map_gaps_as_rust = (map_as_rust same (range_map_proper cs n left)).gaps

  -- OF TWO
  module _ (ds : List Call) (o : RangeMap) (other : RangeMapAfter ds o) where
    pub range_map_eq_as_rust : EqAsRust half_open rust (Map.held n) (Map.held o) (RangeMapEq n o)
    range_map_eq_as_rust = (maps_as_rust same (range_map_proper cs n left) (range_map_proper ds o other)).eq

    pub range_map_cmp_as_rust : CmpAsRust half_open rust (Map.held n) (Map.held o) (RangeMapCmp n o)
    range_map_cmp_as_rust = (maps_as_rust same (range_map_proper cs n left) (range_map_proper ds o other)).cmp

-- THE INCLUSIVE MAP
module _ (rust : Functions) (same : EqualToTheRust inclusive rust) (cs : List Call) (n : RangeInclusiveMap) (left : RangeInclusiveMapAfter cs n) where
  -- INSERT and REMOVE, through either door: what they answer, and every place that they leave
  pub range_inclusive_map_insert_as_rust : (n' : RangeInclusiveMap) (s e : ℤ) (v r : ℕ) → RangeInclusiveMapCall (insert_call s e v r) n n'
      → EditAsRust inclusive rust (InclusiveMap.held n) s e (some v) r (InclusiveMap.held n')
  range_inclusive_map_insert_as_rust n' s e v r q = through_door same (range_inclusive_map_proper cs n left) inclusive_too s e (some v) q

  pub range_inclusive_map_remove_as_rust : (n' : RangeInclusiveMap) (s e : ℤ) (r : ℕ) → RangeInclusiveMapCall (remove_call s e r) n n'
      → EditAsRust inclusive rust (InclusiveMap.held n) s e none r (InclusiveMap.held n')
  range_inclusive_map_remove_as_rust n' s e r q = through_door same (range_inclusive_map_proper cs n left) inclusive_too s e none q

  -- BULK INSERT
  pub range_inclusive_map_extend_as_rust : (n' : RangeInclusiveMap) (ss es : List ℤ) (vs : List ℕ) (r : Applied) → RangeInclusiveMapExtend n n' ss es vs r
      → ExtendAsRust inclusive rust (InclusiveMap.held n) (entries ss es vs) r (InclusiveMap.held n')
  range_inclusive_map_extend_as_rust n' ss es vs r q = extend_as_rust same (range_inclusive_map_proper cs n left) (entries ss es vs) q

  -- EACH QUESTION
  pub range_inclusive_map_len_as_rust : LenAsRust inclusive rust (InclusiveMap.held n) (RangeInclusiveMapLen n)
  range_inclusive_map_len_as_rust = (map_as_rust same (range_inclusive_map_proper cs n left)).len

  pub range_inclusive_map_is_empty_as_rust : IsEmptyAsRust inclusive rust (InclusiveMap.held n) (RangeInclusiveMapIsEmpty n)
  range_inclusive_map_is_empty_as_rust = (map_as_rust same (range_inclusive_map_proper cs n left)).is_empty_lem

  pub range_inclusive_map_range_at_as_rust : RangeAtAsRust inclusive rust (InclusiveMap.held n) (RangeInclusiveMapRangeAt n)
  range_inclusive_map_range_at_as_rust = (map_as_rust same (range_inclusive_map_proper cs n left)).range_at

  pub range_inclusive_map_first_as_rust : FirstAsRust inclusive rust (InclusiveMap.held n) (RangeInclusiveMapFirstRangeValue n)
  range_inclusive_map_first_as_rust = (map_as_rust same (range_inclusive_map_proper cs n left)).first

  pub range_inclusive_map_last_as_rust : LastAsRust inclusive rust (InclusiveMap.held n) (RangeInclusiveMapLastRangeValue n)
  range_inclusive_map_last_as_rust = (map_as_rust same (range_inclusive_map_proper cs n left)).last

  pub range_inclusive_map_get_as_rust : GetAsRust inclusive rust (InclusiveMap.held n) (RangeInclusiveMapGetKeyValue n)
  range_inclusive_map_get_as_rust = (map_as_rust same (range_inclusive_map_proper cs n left)).get

  pub range_inclusive_map_contains_as_rust : ContainsAsRust inclusive rust (InclusiveMap.held n) (RangeInclusiveMapContainsKey n)
  range_inclusive_map_contains_as_rust = (map_as_rust same (range_inclusive_map_proper cs n left)).contains

  pub range_inclusive_map_overlaps_as_rust : OverlapsAsRust inclusive rust (InclusiveMap.held n) (RangeInclusiveMapOverlaps n)
  range_inclusive_map_overlaps_as_rust = (map_as_rust same (range_inclusive_map_proper cs n left)).overlaps

  pub range_inclusive_map_overlapping_as_rust : OverlappingAsRust inclusive rust (InclusiveMap.held n) (RangeInclusiveMapOverlapping n)
  range_inclusive_map_overlapping_as_rust = (map_as_rust same (range_inclusive_map_proper cs n left)).overlapping

  pub range_inclusive_map_gaps_as_rust : GapsAsRust inclusive rust (InclusiveMap.held n) (RangeInclusiveMapGaps n)
  range_inclusive_map_gaps_as_rust = (map_as_rust same (range_inclusive_map_proper cs n left)).gaps

  -- OF TWO
  module _ (ds : List Call) (o : RangeInclusiveMap) (other : RangeInclusiveMapAfter ds o) where
    pub range_inclusive_map_eq_as_rust : EqAsRust inclusive rust (InclusiveMap.held n) (InclusiveMap.held o) (RangeInclusiveMapEq n o)
    range_inclusive_map_eq_as_rust = (maps_as_rust same (range_inclusive_map_proper cs n left) (range_inclusive_map_proper ds o other)).eq

    pub range_inclusive_map_cmp_as_rust : CmpAsRust inclusive rust (InclusiveMap.held n) (InclusiveMap.held o) (RangeInclusiveMapCmp n o)
    range_inclusive_map_cmp_as_rust = (maps_as_rust same (range_inclusive_map_proper cs n left) (range_inclusive_map_proper ds o other)).cmp

-- THE SET OF HALF-OPEN RANGES
module _ (rust : Functions) (same : EqualToTheRust half_open rust) (cs : List SetCall) (n : RangeSet) (left : RangeSetAfter cs n) where
  -- INSERT and REMOVE: what they answer, and every place that they leave
  pub range_set_insert_as_rust : (n' : RangeSet) (s e : ℤ) (r : ℕ) → RangeSetInsert n n' s e r
      → EditAsRust half_open rust (Set.held n) s e (some 0) r (Set.held n')
  range_set_insert_as_rust n' s e r q = q ∙ set_insert_as_rust same (range_set_good cs n left) s e

  pub range_set_remove_as_rust : (n' : RangeSet) (s e : ℤ) (r : ℕ) → RangeSetRemove n n' s e r
      → EditAsRust half_open rust (Set.held n) s e none r (Set.held n')
  range_set_remove_as_rust n' s e r q = q ∙ set_remove_as_rust same (range_set_good cs n left) s e

  -- BULK INSERT
  pub range_set_extend_as_rust : (n' : RangeSet) (ss es : List ℤ) (r : Applied) → RangeSetExtend n n' ss es r
      → ExtendAsRust half_open rust (Set.held n) (pairs ss es) r (Set.held n')
  range_set_extend_as_rust n' ss es r q = set_extend_as_rust same (range_set_good cs n left) (pairs ss es) q

  -- EACH QUESTION
  pub range_set_len_as_rust : LenAsRust half_open rust (Set.held n) (RangeSetLen n)
  range_set_len_as_rust = (set_as_rust same (range_set_good cs n left)).len

  pub range_set_is_empty_as_rust : IsEmptyAsRust half_open rust (Set.held n) (RangeSetIsEmpty n)
  range_set_is_empty_as_rust = (set_as_rust same (range_set_good cs n left)).is_empty_lem

  pub range_set_range_at_as_rust : RangeAtAsRust half_open rust (Set.held n) (RangeSetRangeAt n)
  range_set_range_at_as_rust = (set_as_rust same (range_set_good cs n left)).range_at

  pub range_set_first_as_rust : FirstAsRust half_open rust (Set.held n) (RangeSetFirst n)
  range_set_first_as_rust = (set_as_rust same (range_set_good cs n left)).first

  pub range_set_last_as_rust : LastAsRust half_open rust (Set.held n) (RangeSetLast n)
  range_set_last_as_rust = (set_as_rust same (range_set_good cs n left)).last

  pub range_set_get_as_rust : GetAsRust half_open rust (Set.held n) (RangeSetGet n)
  range_set_get_as_rust = (set_as_rust same (range_set_good cs n left)).get

  pub range_set_contains_as_rust : ContainsAsRust half_open rust (Set.held n) (RangeSetContains n)
  range_set_contains_as_rust = (set_as_rust same (range_set_good cs n left)).contains

  pub range_set_overlaps_as_rust : OverlapsAsRust half_open rust (Set.held n) (RangeSetOverlaps n)
  range_set_overlaps_as_rust = (set_as_rust same (range_set_good cs n left)).overlaps

  pub range_set_overlapping_as_rust : OverlappingAsRust half_open rust (Set.held n) (RangeSetOverlapping n)
  range_set_overlapping_as_rust = (set_as_rust same (range_set_good cs n left)).overlapping

  pub range_set_gaps_as_rust : GapsAsRust half_open rust (Set.held n) (RangeSetGaps n)
  range_set_gaps_as_rust = (set_as_rust same (range_set_good cs n left)).gaps

  -- OF TWO
  module _ (ds : List SetCall) (o : RangeSet) (other : RangeSetAfter ds o) where
    pub range_set_eq_as_rust : EqAsRust half_open rust (Set.held n) (Set.held o) (RangeSetEq n o)
    range_set_eq_as_rust = (sets_as_rust same (range_set_good cs n left) (range_set_good ds o other)).eq

    pub range_set_cmp_as_rust : CmpAsRust half_open rust (Set.held n) (Set.held o) (RangeSetCmp n o)
    range_set_cmp_as_rust = (sets_as_rust same (range_set_good cs n left) (range_set_good ds o other)).cmp

    pub range_set_union_as_rust : UnionAsRust half_open rust (Set.held n) (Set.held o) (RangeSetUnion n o)
    range_set_union_as_rust = (sets_as_rust same (range_set_good cs n left) (range_set_good ds o other)).union

    pub range_set_intersection_as_rust : IntersectionAsRust half_open rust (Set.held n) (Set.held o) (RangeSetIntersection n o)
    range_set_intersection_as_rust = (sets_as_rust same (range_set_good cs n left) (range_set_good ds o other)).intersection

-- THE SET OF INCLUSIVE RANGES
module _ (rust : Functions) (same : EqualToTheRust inclusive rust) (cs : List SetCall) (n : RangeInclusiveSet) (left : RangeInclusiveSetAfter cs n) where
  -- INSERT and REMOVE: what they answer, and every place that they leave
  pub range_inclusive_set_insert_as_rust : (n' : RangeInclusiveSet) (s e : ℤ) (r : ℕ) → RangeInclusiveSetInsert n n' s e r
      → EditAsRust inclusive rust (InclusiveSet.held n) s e (some 0) r (InclusiveSet.held n')
  range_inclusive_set_insert_as_rust n' s e r q = q ∙ set_insert_as_rust same (range_inclusive_set_good cs n left) s e

  pub range_inclusive_set_remove_as_rust : (n' : RangeInclusiveSet) (s e : ℤ) (r : ℕ) → RangeInclusiveSetRemove n n' s e r
      → EditAsRust inclusive rust (InclusiveSet.held n) s e none r (InclusiveSet.held n')
  range_inclusive_set_remove_as_rust n' s e r q = q ∙ set_remove_as_rust same (range_inclusive_set_good cs n left) s e

  -- BULK INSERT
  pub range_inclusive_set_extend_as_rust : (n' : RangeInclusiveSet) (ss es : List ℤ) (r : Applied) → RangeInclusiveSetExtend n n' ss es r
      → ExtendAsRust inclusive rust (InclusiveSet.held n) (pairs ss es) r (InclusiveSet.held n')
  range_inclusive_set_extend_as_rust n' ss es r q = set_extend_as_rust same (range_inclusive_set_good cs n left) (pairs ss es) q

  -- EACH QUESTION
  pub range_inclusive_set_len_as_rust : LenAsRust inclusive rust (InclusiveSet.held n) (RangeInclusiveSetLen n)
  range_inclusive_set_len_as_rust = (set_as_rust same (range_inclusive_set_good cs n left)).len

  pub range_inclusive_set_is_empty_as_rust : IsEmptyAsRust inclusive rust (InclusiveSet.held n) (RangeInclusiveSetIsEmpty n)
  range_inclusive_set_is_empty_as_rust = (set_as_rust same (range_inclusive_set_good cs n left)).is_empty_lem

  pub range_inclusive_set_range_at_as_rust : RangeAtAsRust inclusive rust (InclusiveSet.held n) (RangeInclusiveSetRangeAt n)
  range_inclusive_set_range_at_as_rust = (set_as_rust same (range_inclusive_set_good cs n left)).range_at

  pub range_inclusive_set_first_as_rust : FirstAsRust inclusive rust (InclusiveSet.held n) (RangeInclusiveSetFirst n)
  range_inclusive_set_first_as_rust = (set_as_rust same (range_inclusive_set_good cs n left)).first

  pub range_inclusive_set_last_as_rust : LastAsRust inclusive rust (InclusiveSet.held n) (RangeInclusiveSetLast n)
  range_inclusive_set_last_as_rust = (set_as_rust same (range_inclusive_set_good cs n left)).last

  pub range_inclusive_set_get_as_rust : GetAsRust inclusive rust (InclusiveSet.held n) (RangeInclusiveSetGet n)
  range_inclusive_set_get_as_rust = (set_as_rust same (range_inclusive_set_good cs n left)).get

  pub range_inclusive_set_contains_as_rust : ContainsAsRust inclusive rust (InclusiveSet.held n) (RangeInclusiveSetContains n)
  range_inclusive_set_contains_as_rust = (set_as_rust same (range_inclusive_set_good cs n left)).contains

  pub range_inclusive_set_overlaps_as_rust : OverlapsAsRust inclusive rust (InclusiveSet.held n) (RangeInclusiveSetOverlaps n)
  range_inclusive_set_overlaps_as_rust = (set_as_rust same (range_inclusive_set_good cs n left)).overlaps

  pub range_inclusive_set_overlapping_as_rust : OverlappingAsRust inclusive rust (InclusiveSet.held n) (RangeInclusiveSetOverlapping n)
  range_inclusive_set_overlapping_as_rust = (set_as_rust same (range_inclusive_set_good cs n left)).overlapping

  pub range_inclusive_set_gaps_as_rust : GapsAsRust inclusive rust (InclusiveSet.held n) (RangeInclusiveSetGaps n)
  range_inclusive_set_gaps_as_rust = (set_as_rust same (range_inclusive_set_good cs n left)).gaps

  -- OF TWO
  module _ (ds : List SetCall) (o : RangeInclusiveSet) (other : RangeInclusiveSetAfter ds o) where
    pub range_inclusive_set_eq_as_rust : EqAsRust inclusive rust (InclusiveSet.held n) (InclusiveSet.held o) (RangeInclusiveSetEq n o)
    range_inclusive_set_eq_as_rust = (sets_as_rust same (range_inclusive_set_good cs n left) (range_inclusive_set_good ds o other)).eq

    pub range_inclusive_set_cmp_as_rust : CmpAsRust inclusive rust (InclusiveSet.held n) (InclusiveSet.held o) (RangeInclusiveSetCmp n o)
    range_inclusive_set_cmp_as_rust = (sets_as_rust same (range_inclusive_set_good cs n left) (range_inclusive_set_good ds o other)).cmp

    pub range_inclusive_set_union_as_rust : UnionAsRust inclusive rust (InclusiveSet.held n) (InclusiveSet.held o) (RangeInclusiveSetUnion n o)
    range_inclusive_set_union_as_rust = (sets_as_rust same (range_inclusive_set_good cs n left) (range_inclusive_set_good ds o other)).union

    pub range_inclusive_set_intersection_as_rust
        : IntersectionAsRust inclusive rust (InclusiveSet.held n) (InclusiveSet.held o) (RangeInclusiveSetIntersection n o)
    range_inclusive_set_intersection_as_rust = (sets_as_rust same (range_inclusive_set_good cs n left) (range_inclusive_set_good ds o other)).intersection
