-- EQUAL TO THE RUST on every input not refused: the statement, for a kind and the Rust's functions of that kind. `proofs/Equal` has that both kinds meet it.
use Rattle.std.specs.Prelude.{ℕ, ◌<◌, ◌≡◌, false, List, [], ◌∷◌, map, length, take, drop, ℤ, Ok}
use Rattle.std.specs.Int.{w64}
use Rattle.std.proofs.Math.Option.{Option, some}
use Rattle.std.proofs.Common.{SFits}
use Rattle.span.specs.Span.{Span}
use Rattle.key.specs.Rank.{rank}
use Rattle.key.specs.Range.{Kind, span_of}
use Rattle.key.specs.declared.Entry.{Entry}
use Rattle.relations.specs.Relations as relations
use Rattle.relations.specs.Relations.{related}
use Rattle.outcomes.specs.Stored.{places, ranges, storing, Sound}
use Rattle.outcomes.specs.declared.Stored.{Stored}
use Rattle.outcomes.specs.Outcomes.{Change, Written, into_lists, yes_no, compared_by, clear, edits, span_edits, bulk_insert_sound}
use Rattle.outcomes.specs.Outcomes.{is_empty, count_of, range_at, first_of, last_of, lookup, contains, overlaps, overlapping, gaps, equal, order}
use Rattle.outcomes.specs.Sets.{SoundSet, intersection, union}
use Rattle.outcomes.specs.declared.Part.{Part}
use Rattle.outcomes.specs.Answered.{Located}
use Rattle.rust_algorithm.specs.Btree.{nth}
use Rattle.rust_algorithm.specs.Map.{map_first, map_last, map_len, map_is_empty}
use Rattle.rust_algorithm.specs.Answers.{Functions, related_by, common_by, rust_found, rust_run}

-- a map as it is lent: sound, and of as many places as maps have
pub record LentMap (kind : Kind) (m : Stored) : Type 0 where
  pub sound : Sound kind m
  pub full_size : length m.starts ≡ places

-- a part of a map's places: those are the entries that the Rust gives
pub record PartGiven (xs : List Span) (answer : Located) (given : List Span) : Type 0 where
  pub part : Part
  pub told : answer ≡ Ok part
  pub same : take part.count (drop part.place xs) ≡ given

-- a list that is written: the Rust's iterator ends, and what it gave is written into the lent lists
pub record ListGiven (kind : Kind) (given : Option (List Span)) (starts ends : List ℤ) (w : Written) : Type 0 where
  pub list : List Span
  pub gave : given ≡ some list
  pub same : w ≡ into_lists kind list starts ends

-- the edits of a set: what they give is the value 0, or none
abbrev pub OfSet : List Change → Type 0
OfSet [] = Unit {0}
OfSet (c ∷ cs) = ((v : ℕ) → c.new ≡ some v → v ≡ 0) × OfSet cs

-- the entries of a bulk insert as ranges with values, and as many of them as it says that it applied
abbrev pub entry_spans : Kind → List Entry → List Span
entry_spans kind es = map (λ (x : Entry). span_of kind x.start x.end x.value) es

abbrev pub applied : Kind → Stored → List Entry → List Span
applied kind m es = entry_spans kind (take (bulk_insert_sound kind m 0 es).told.applied es)

module _ (kind : Kind) (rust : Functions) where
  -- MODULE 1: two ranges that are not empty or reversed, and intersect of any two, are related as the Rust says
  pub record SameRelations (s e s' e' : ℤ) : Type 0 where
    pub contains : (k : ℤ) → rank s < kind.past e → relations.range_contains kind s e k ≡ related false (rust.range_contains (rank s) (kind.past e) (rank k))
    pub overlaps : rank s < kind.past e → rank s' < kind.past e'
        → relations.ranges_overlap kind s e s' e' ≡ related false (rust.range_overlaps (rank s) (kind.past e) (rank s') (kind.past e'))
    pub touches : rank s < kind.past e → rank s' < kind.past e'
        → relations.ranges_touch kind s e s' e' ≡ related_by (rust.range_touches (rank s) (kind.past e) (rank s') (kind.past e'))
    pub intersect : SFits w64 s → SFits w64 e → SFits w64 s' → SFits w64 e'
        → relations.ranges_intersect kind s e s' e' ≡ common_by kind (rust.range_intersect (span_of kind s e 0) (span_of kind s' e' 0))

  -- after edits of which none is refused: the Rust, called in the same way from an empty map, holds btm, and the map that is left is the one
  -- that stores btm, place by place, unused places included
  pub record SameHistory (cs : List Change) : Type 0 where
    pub btm : List Span
    pub holds : rust.history (span_edits kind cs) [] ≡ some btm
    pub stores : (edits kind (clear kind) cs).left ≡ storing kind places btm
    pub lent : LentMap kind (edits kind (clear kind) cs).left

  -- each question of a map is answered as the Rust answers it of the ranges that the map holds
  pub record SameAnswers (m : Stored) : Type 0 where
    pub len : count_of kind m ≡ Ok (map_len (ranges kind m))
    pub is_empty_lem : is_empty kind m ≡ yes_no (map_is_empty (ranges kind m))
    pub iter : (i : ℕ) → range_at kind m i ≡ rust_found kind (nth i (ranges kind m))
    pub first : first_of kind m ≡ rust_found kind (map_first (ranges kind m))
    pub last : last_of kind m ≡ rust_found kind (map_last (ranges kind m))
    pub get_key_value : (k : ℤ) → lookup kind m k ≡ rust_found kind (rust.get_key_value (rank k) (ranges kind m))
    pub contains_key : (k : ℤ) → contains kind m k ≡ yes_no (rust.contains_key (rank k) (ranges kind m))
    pub overlaps : (s e : ℤ) → rank s < kind.past e → overlaps kind m s e ≡ yes_no (rust.overlaps (rank s) (kind.past e) (ranges kind m))
    pub overlapping : (s e : ℤ) → rank s < kind.past e
        → PartGiven (ranges kind m) (overlapping kind m s e) (rust.overlapping (rank s) (kind.past e) (ranges kind m))
    pub gaps : (s e : ℤ) → rank s < kind.past e → (starts ends : List ℤ)
        → ListGiven kind (rust.gaps (rank s) (kind.past e) (ranges kind m)) starts ends (gaps kind m s e starts ends)

  -- and of two maps
  pub record SameOrder (a b : Stored) : Type 0 where
    pub eq : equal kind a b ≡ yes_no (rust.eq (ranges kind a) (ranges kind b))
    pub cmp : order kind a b ≡ compared_by (rust.cmp (ranges kind a) (ranges kind b))

  -- and of two sets
  pub record SameOfSets (a b : Stored) : Type 0 where
    pub union : (starts ends : List ℤ) → ListGiven kind (rust.union (ranges kind a) (ranges kind b)) starts ends (union kind a b starts ends)
    pub intersection : (starts ends : List ℤ)
        → ListGiven kind (rust.intersection (ranges kind a) (ranges kind b)) starts ends (intersection kind a b starts ends)

  pub record EqualToTheRust : Type 0 where
    -- EVERY TWO RANGES
    pub relations : (s e s' e' : ℤ) → SameRelations s e s' e'
    -- EVERY EDIT, refused or not: 1 where the Rust panics, 2 where it would hold more ranges than there are places, and else what it leaves
    pub every_edit : (m : Stored) (cs : List Change) → LentMap kind m → edits kind m cs ≡ rust_run kind rust m cs
    -- EVERY HISTORY of edits of which none is refused
    pub histories : (cs : List Change) → (edits kind (clear kind) cs).answer ≡ 0 → SameHistory cs
    -- of a set too: edits that give 0 or none leave a set, so that each function of a set answers as the map's does
    pub set_histories : (cs : List Change) → OfSet cs → (edits kind (clear kind) cs).answer ≡ 0 → SoundSet kind (edits kind (clear kind) cs).left
    -- EVERY QUESTION
    pub questions : (m : Stored) → LentMap kind m → SameAnswers m
    pub order : (a b : Stored) → LentMap kind a → LentMap kind b → SameOrder a b
    pub sets : (a b : Stored) → SoundSet kind a → SoundSet kind b → LentMap kind a → LentMap kind b → SameOfSets a b
    -- BULK INSERT applies as many entries as it says, and leaves what extend leaves after those
    pub extend : (m : Stored) (es : List Entry) → LentMap kind m
        → rust.extend (applied kind m es) (ranges kind m) ≡ some (ranges kind (bulk_insert_sound kind m 0 es).left)
