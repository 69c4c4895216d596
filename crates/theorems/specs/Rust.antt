-- WHAT IS EQUAL TO THE RUST: what a struct answers, by the promise of a function, is what rangemap's own algorithms answer on the ranges that it holds; and
-- what calls leave is what these hold that made the same changes. m and o are the maps that two structs hold.
use Rattle.std.specs.Prelude.{ℕ, ◌<◌, ◌≡◌, List, [], take, drop, ℤ, Ok}
use Rattle.std.proofs.Math.Option.{Option, some}
use Rattle.answers.specs.Answers.{done}
use Rattle.span.specs.Span.{Span}
use Rattle.key.specs.Rank.{rank}
use Rattle.key.specs.Range.{Kind}
use Rattle.outcomes.specs.Stored.{places, ranges, storing}
use Rattle.outcomes.specs.declared.Stored.{Stored}
use Rattle.outcomes.specs.Outcomes.{Change, Listed, leaving, into_lists, yes_no, compared_by, span_edits}
use Rattle.key.specs.declared.Entry.{Entry}
use Rattle.outcomes.specs.Numbers.{asked_in_c, counted_in_c, found_in_c, compared_in_c}
use Rattle.outcomes.specs.declared.Applied.{Applied}
use Rattle.outcomes.specs.declared.Count.{Count}
use Rattle.outcomes.specs.declared.Order.{Order}
use Rattle.outcomes.specs.declared.Range.{Range}
use Rattle.outcomes.specs.declared.Stretch.{Stretch}
use Rattle.outcomes.specs.declared.Told.{Told}
use Rattle.rust_algorithm.specs.Btree.{nth}
use Rattle.rust_algorithm.specs.Map.{map_first, map_last, map_len, map_is_empty}
use Rattle.rust_algorithm.specs.Answers.{Functions, rust_found, rust_edited}
use Rattle.rust_algorithm.specs.Equal.{entry_spans}

-- two lent lists, at entry and at exit: the Rust's iterator ends, and what it gave is written
abbrev pub WrittenAsRust : Kind → Option (List Span) → List ℤ → List ℤ → List ℤ → List ℤ → Count → Type 0
WrittenAsRust kind given os os' oe oe' r = (list : List Span) × ((given ≡ some list) × Listed r os' oe' (into_lists kind list os oe))

-- AN EDIT of m, which gives a value or none: what it answers, and every place that it leaves
abbrev pub EditAsRust : Kind → Functions → Stored → ℤ → ℤ → Option ℕ → ℕ → Stored → Type 0
EditAsRust kind rust m s e new r m' = leaving r m' ≡ rust_edited kind rust m s e new

-- BULK INSERT: the Rust's extend of as many entries as were applied leaves what the map holds then
abbrev pub ExtendAsRust : Kind → Functions → Stored → List Entry → Applied → Stored → Type 0
ExtendAsRust kind rust m xs r m' = rust.extend (entry_spans kind (take r.applied xs)) (ranges kind m) ≡ some (ranges kind m')

-- EACH QUESTION, by its promise
module _ (kind : Kind) (rust : Functions) (m : Stored) where
  -- len
  abbrev pub LenAsRust : (Count → Type 0) → Type 0
  LenAsRust Promise = (r : Count) → Promise r → r ≡ counted_in_c (Ok (map_len (ranges kind m)))

  -- is empty
  abbrev pub IsEmptyAsRust : (Told → Type 0) → Type 0
  IsEmptyAsRust Promise = (r : Told) → Promise r → r ≡ asked_in_c (yes_no (map_is_empty (ranges kind m)))

  -- the range at a place, as the iterator's nth
  abbrev pub RangeAtAsRust : (ℕ → Range → Type 0) → Type 0
  RangeAtAsRust Promise = (i : ℕ) (r : Range) → Promise i r → r ≡ found_in_c (rust_found kind (nth i (ranges kind m)))

  -- first
  abbrev pub FirstAsRust : (Range → Type 0) → Type 0
  FirstAsRust Promise = (r : Range) → Promise r → r ≡ found_in_c (rust_found kind (map_first (ranges kind m)))

  -- last
  abbrev pub LastAsRust : (Range → Type 0) → Type 0
  LastAsRust Promise = (r : Range) → Promise r → r ≡ found_in_c (rust_found kind (map_last (ranges kind m)))

  -- get
  abbrev pub GetAsRust : (ℤ → Range → Type 0) → Type 0
  GetAsRust Promise = (k : ℤ) (r : Range) → Promise k r → r ≡ found_in_c (rust_found kind (rust.get_key_value (rank k) (ranges kind m)))

  -- contains
  abbrev pub ContainsAsRust : (ℤ → Told → Type 0) → Type 0
  ContainsAsRust Promise = (k : ℤ) (r : Told) → Promise k r → r ≡ asked_in_c (yes_no (rust.contains_key (rank k) (ranges kind m)))

  -- overlaps, of a query that is not empty
  abbrev pub OverlapsAsRust : (ℤ → ℤ → Told → Type 0) → Type 0
  OverlapsAsRust Promise = (s e : ℤ) (r : Told) → rank s < kind.past e → Promise s e r
      → r ≡ asked_in_c (yes_no (rust.overlaps (rank s) (kind.past e) (ranges kind m)))

  -- overlapping, of a query that is not empty: the places that are told hold what the Rust's iterator gives
  abbrev pub OverlappingAsRust : (ℤ → ℤ → Stretch → Type 0) → Type 0
  OverlappingAsRust Promise = (s e : ℤ) (r : Stretch) → rank s < kind.past e → Promise s e r
      → (r.answer ≡ done) × (take r.count (drop r.place (ranges kind m)) ≡ rust.overlapping (rank s) (kind.past e) (ranges kind m))

  -- gaps, of an outer range that is not empty
  abbrev pub GapsAsRust : (ℤ → ℤ → List ℤ → List ℤ → List ℤ → List ℤ → Count → Type 0) → Type 0
  GapsAsRust Promise = (s e : ℤ) (os os' oe oe' : List ℤ) (r : Count) → rank s < kind.past e → Promise s e os os' oe oe' r
      → WrittenAsRust kind (rust.gaps (rank s) (kind.past e) (ranges kind m)) os os' oe oe' r

-- OF TWO
module _ (kind : Kind) (rust : Functions) (m o : Stored) where
  -- equality
  abbrev pub EqAsRust : (Told → Type 0) → Type 0
  EqAsRust Promise = (r : Told) → Promise r → r ≡ asked_in_c (yes_no (rust.eq (ranges kind m) (ranges kind o)))

  -- order
  abbrev pub CmpAsRust : (Order → Type 0) → Type 0
  CmpAsRust Promise = (r : Order) → Promise r → r ≡ compared_in_c (compared_by (rust.cmp (ranges kind m) (ranges kind o)))

  -- union
  abbrev pub UnionAsRust : (List ℤ → List ℤ → List ℤ → List ℤ → Count → Type 0) → Type 0
  UnionAsRust Promise = (os os' oe oe' : List ℤ) (r : Count) → Promise os os' oe oe' r
      → WrittenAsRust kind (rust.union (ranges kind m) (ranges kind o)) os os' oe oe' r

  -- intersection
  abbrev pub IntersectionAsRust : (List ℤ → List ℤ → List ℤ → List ℤ → Count → Type 0) → Type 0
  IntersectionAsRust Promise = (os os' oe oe' : List ℤ) (r : Count) → Promise os os' oe oe' r
      → WrittenAsRust kind (rust.intersection (ranges kind m) (ranges kind o)) os os' oe oe' r

-- THE SAME HISTORY: the Rust, which makes the changes in order of an empty map, panics nowhere and holds then the ranges that m holds; and m is the one map
-- that stores these, unused places included
pub record HistoryAsRust (kind : Kind) (rust : Functions) (changes : List Change) (m : Stored) : Type 0 where
  pub holds : rust.history (span_edits kind changes) [] ≡ some (ranges kind m)
  pub stores : m ≡ storing kind places (ranges kind m)
