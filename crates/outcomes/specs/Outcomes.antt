-- Document 01, modules 2 and 3: what each function of a map answers, and what it leaves in all lent memory. `kind` is `half_open` or `inclusive`.
-- First what is answered of a well-formed map (the unchecked doors of the code promise that), then the same of any map: 4 if it is not well formed.
-- Refusals in the order of document 01: 4 the map is not well formed, 1 the range is empty or reversed, 5 there is none, 2 the map would be too large,
-- 3 the lent output is too short.
use Prim.Native.Nat.{ℕ, suc, ◌-◌, min, Ordering}
use Rattle.std.specs.Prelude.{◌≡◌, Bool, true, false, ◌&&◌, cond, List, [], ◌∷◌, ◌++◌, map, eqb, ltb, length, get_or, drop, ℤ, pos, Ok, Err, Some, None}
use Rattle.std.proofs.Math.Option.{Option, some, none}
use Rattle.answers.specs.Answers.{done, empty_range, too_many, not_formed}
use Rattle.answers.specs.declared.Refusal.{Refusal}
use Rattle.answers.specs.declared.Refusal.TheVariants.{EmptyRange, TooShort, NotFormed}
use Rattle.std.specs.declared.cmp.Ordering.TheVariants.{Less, Equal, Greater}
use Rattle.span.specs.Span.{Span, given, Edit}
use Rattle.span.specs.Operations.{uncovered, spans_overlap, any, holds, span_order}
use Rattle.key.specs.Rank.{rank, key_at}
use Rattle.key.specs.Range.{Kind, span_of, empty}
use Rattle.outcomes.specs.Stored.{places, ranges, storing, well_formed}
use Rattle.outcomes.specs.declared.Stored.{Stored}
use Rattle.key.specs.declared.Entry.{Entry}
use Rattle.outcomes.specs.Answered.{entry}
use Rattle.outcomes.specs.Answered.{Asked, Counted, Found, Located, Compared, places_from}
use Rattle.outcomes.specs.declared.Applied.{Applied}
use Rattle.outcomes.specs.declared.Count.{Count}
use Rattle.outcomes.specs.Numbers.{counted_in_c}

abbrev pub yes_no : Bool → Asked
yes_no b = Ok b

-- -1, 0 or 1
abbrev pub compared_by : Ordering → Compared
compared_by Ordering.lt = Ok Less
compared_by Ordering.eq = Ok Equal
compared_by Ordering.gt = Ok Greater

abbrev pub is_equal : Ordering → Bool
is_equal Ordering.lt = false
is_equal Ordering.eq = true
is_equal Ordering.gt = false

-- the place of the first span that passes a test: how many spans there are, if none does
unfoldable pub first_place : (Span → Bool) → List Span → ℕ
first_place p [] = 0
first_place p (x ∷ xs) = cond (p x) 0 (suc (first_place p xs))

-- how many spans pass a test
unfoldable pub how_many : (Span → Bool) → List Span → ℕ
how_many p [] = 0
how_many p (x ∷ xs) = cond (p x) (suc (how_many p xs)) (how_many p xs)

-- the part that passes a test: no part is place 0, count 0
unfoldable pub part_of : (Span → Bool) → List Span → Located
part_of p xs = let n = how_many p xs in cond (eqb n 0) (Ok (places_from 0 0)) (Ok (places_from (first_place p xs) n))

-- the entries of three lent lists: as many as the shortest has
unfoldable pub entries : List ℤ → List ℤ → List ℕ → List Entry
entries [] es vs = []
entries (s ∷ ss) [] vs = []
entries (s ∷ ss) (e ∷ es) [] = []
entries (s ∷ ss) (e ∷ es) (v ∷ vs) = entry s e v ∷ entries ss es vs

-- a lent list with other elements in its first places
abbrev pub in_first_places : List ℤ → List ℤ → List ℤ
in_first_places new old = new ++ drop (length new) old

-- what a list of ranges answers that is written into two lent lists, and what these hold then
pub record Written : Type 0 where
  pub answer : Counted
  pub starts : List ℤ
  pub ends : List ℤ

-- the same where nothing is written: the lent lists are as they were
abbrev pub not_written : Refusal → List ℤ → List ℤ → Written
not_written why starts ends = record { answer = Err why; starts = starts; ends = ends }

-- what C and Rust see of it: the number and the count, and what the lent lists hold
pub record Listed (r : Count) (starts ends : List ℤ) (w : Written) : Type 0 where
  pub number : r ≡ counted_in_c w.answer
  pub starts_are : starts ≡ w.starts
  pub ends_are : ends ≡ w.ends

-- what an edit answers, and the map that it leaves
pub record Edited : Type 0 where
  pub answer : ℕ
  pub left : Stored

abbrev pub leaving : ℕ → Stored → Edited
leaving n m = record { answer = n; left = m }

-- what a bulk insert answers, and the map that it leaves
pub record Extended : Type 0 where
  pub told : Applied
  pub left : Stored

abbrev pub extended : Applied → Stored → Extended
extended r m = record { told = r; left = m }

-- an edit of a list of them: a range, and the value that it is given, or none
pub record Change : Type 0 where
  pub start : ℤ
  pub end : ℤ
  pub new : Option ℕ

-- an entry of a bulk insert as an edit
abbrev pub entry_change : Entry → Change
entry_change x = record { start = x.start; end = x.end; new = some x.value }

-- OF A WELL-FORMED MAP

-- the range and the value at a place
unfoldable pub range_at_sound : Stored → ℕ → Found
range_at_sound m i = cond (ltb i m.count) (Ok (Some (entry (get_or m.starts i (pos 0)) (get_or m.ends i (pos 0)) (get_or m.values i 0)))) (Ok None)

module _ (kind : Kind) where
  -- the range that holds a key, and its value
  unfoldable pub lookup_sound : Stored → ℤ → Found
  lookup_sound m k = range_at_sound m (first_place (holds (rank k)) (ranges kind m))

  -- does some range hold the key
  unfoldable pub contains_sound : Stored → ℤ → Asked
  contains_sound m k = yes_no (any (holds (rank k)) (ranges kind m))

  -- does some range have a key of the query
  unfoldable pub overlaps_sound : Stored → ℤ → ℤ → Asked
  overlaps_sound m s e = let q = span_of kind s e 0 in cond (empty q) (Err EmptyRange) (yes_no (any (spans_overlap q) (ranges kind m)))

  -- which consecutive stored part meets the query
  unfoldable pub overlapping_sound : Stored → ℤ → ℤ → Located
  overlapping_sound m s e = let q = span_of kind s e 0 in cond (empty q) (Err EmptyRange) (part_of (spans_overlap q) (ranges kind m))

  -- ranges into the first places of two lent lists, if these are long enough: they are as long as the shorter one
  unfoldable pub into_lists : List Span → List ℤ → List ℤ → Written
  into_lists xs starts ends =
      cond (ltb (min (length starts) (length ends)) (length xs))
      (not_written TooShort starts ends)
      (record {
        answer = Ok (length xs);
        starts = in_first_places (map (λ (x : Span). key_at x.lo) xs) starts;
        ends = in_first_places (map (λ (x : Span). kind.ending x.hi) xs) ends;
      })

  -- the maximal uncovered ranges inside the outer range, ascending
  unfoldable pub gaps_sound : Stored → ℤ → ℤ → List ℤ → List ℤ → Written
  gaps_sound m s e starts ends =
      let q = span_of kind s e 0 in
      cond (empty q) (not_written EmptyRange starts ends)
      (into_lists (uncovered q.lo q.hi (ranges kind m)) starts ends)

  -- triples of start, end and value place by place, a prefix first
  unfoldable pub order_sound : Stored → Stored → Ordering
  order_sound a b = span_order (ranges kind a) (ranges kind b)

  -- an edit gives the range a value, or none. Whether the map of n places would be too small is judged on the final map
  unfoldable pub edit_sound : ℕ → Stored → ℤ → ℤ → Option ℕ → Edited
  edit_sound n m s e new =
      let q = span_of kind s e 0 in
      let xs = given q.lo q.hi new (ranges kind m) in
      cond (empty q) (leaving empty_range m) (cond (ltb n (length xs)) (leaving too_many m) (leaving done (storing kind n xs)))

  -- in list order, up to the first refusal; n were applied before
  unfoldable pub bulk_insert_sound : Stored → ℕ → List Entry → Extended
  bulk_insert_sound m n [] = record { told = record { answer = done; applied = n }; left = m }
  bulk_insert_sound m n (x ∷ xs) =
      let one = edit_sound places m x.start x.end (some x.value) in
      cond (eqb one.answer done) (bulk_insert_sound one.left (suc n) xs) (record { told = record { answer = one.answer; applied = n }; left = m })

  -- OF ANY MAP

  -- is a lent map as it must be
  abbrev pub formed : Stored → Bool
  formed m = well_formed kind places m

  -- EMPTY: is nothing held
  unfoldable pub is_empty : Stored → Asked
  is_empty m = cond (formed m) (yes_no (eqb m.count 0)) (Err NotFormed)

  -- COUNT: how many ranges are held
  unfoldable pub count_of : Stored → Counted
  count_of m = cond (formed m) (Ok m.count) (Err NotFormed)

  -- RANGE AT A PLACE
  unfoldable pub range_at : Stored → ℕ → Found
  range_at m i = cond (formed m) (range_at_sound m i) (Err NotFormed)

  -- FIRST and LAST
  abbrev pub first_of : Stored → Found
  first_of m = range_at m 0

  abbrev pub last_of : Stored → Found
  last_of m = range_at m (m.count - 1)

  -- LOOKUP
  unfoldable pub lookup : Stored → ℤ → Found
  lookup m k = cond (formed m) (lookup_sound m k) (Err NotFormed)

  -- CONTAINS
  unfoldable pub contains : Stored → ℤ → Asked
  contains m k = cond (formed m) (contains_sound m k) (Err NotFormed)

  -- OVERLAPS
  unfoldable pub overlaps : Stored → ℤ → ℤ → Asked
  overlaps m s e = cond (formed m) (overlaps_sound m s e) (Err NotFormed)

  -- OVERLAPPING
  unfoldable pub overlapping : Stored → ℤ → ℤ → Located
  overlapping m s e = cond (formed m) (overlapping_sound m s e) (Err NotFormed)

  -- GAPS
  unfoldable pub gaps : Stored → ℤ → ℤ → List ℤ → List ℤ → Written
  gaps m s e starts ends = cond (formed m) (gaps_sound m s e starts ends) (not_written NotFormed starts ends)

  -- EQUALITY and ORDER of two maps
  unfoldable pub equal : Stored → Stored → Asked
  equal a b = cond (formed a && formed b) (yes_no (is_equal (order_sound a b))) (Err NotFormed)

  unfoldable pub order : Stored → Stored → Compared
  order a b = cond (formed a && formed b) (compared_by (order_sound a b)) (Err NotFormed)

  -- CLEAR, and a new map: nothing is held. Clear overwrites its map, so it does not check it
  unfoldable pub clear : Stored
  clear = storing kind places []

  -- AN EDIT
  unfoldable pub edit : Stored → ℤ → ℤ → Option ℕ → Edited
  edit m s e new = cond (formed m) (edit_sound places m s e new) (leaving not_formed m)

  -- INSERT gives the value to each instant of the range and no other
  abbrev pub insert : Stored → ℤ → ℤ → ℕ → Edited
  insert m s e v = edit m s e (some v)

  -- REMOVE uncovers exactly the range
  abbrev pub remove : Stored → ℤ → ℤ → Edited
  remove m s e = edit m s e none

  -- BULK INSERT: the count applied is returned, and earlier entries stay
  unfoldable pub bulk_insert : Stored → List Entry → Extended
  bulk_insert m xs = cond (formed m) (bulk_insert_sound m 0 xs) (record { told = record { answer = not_formed; applied = 0 }; left = m })

  -- EDITS in order, up to the first refusal
  unfoldable pub edits : Stored → List Change → Edited
  edits m [] = leaving done m
  edits m (c ∷ cs) = let one = edit m c.start c.end c.new in cond (eqb one.answer done) (edits one.left cs) one

  -- the same edits of instants
  unfoldable pub span_edits : List Change → List Edit
  span_edits [] = []
  span_edits (c ∷ cs) = let q = span_of kind c.start c.end 0 in record { lo = q.lo; hi = q.hi; new = c.new } ∷ span_edits cs
