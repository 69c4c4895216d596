-- THE DIFFERENCES, line by line as in docs/DIFFERENCES.md: the ledger refuses, and the transcribed Rust answers or panics. First what holds of every input,
-- of both kinds; then the smallest inputs that the paper names, by computation. (That of an exhausted RangeInclusive cannot be written here.)
use Prim.Native.Nat.{ℕ, suc, ◌≤◌, ◌<◌, min, max}
use native.Mathlib.Omega.{arith}
use native.Mathlib.Decide.{dec_lt}
use mathlib.Core.Path.{◌≡◌, refl, ap, sym, ◌∙◌}
use mathlib.Core.Bool.{Bool, true, false, cond}
use mathlib.Core.List.{List, [], ◌∷◌, map}
use mathlib.Core.Option.{Option, some, none}
use lib.Dec.{ltb}
use lib.ListN.{length}
use lib.IntN.{ℤ}
use mir.Syntax.{w64}
use mir.Val.{of_z}
use borrow.Author.Tests.{lt-ltb, le-ltb, le-leb, lt-leb, eq-eqb, ne_eqb}
use Rattle.std.specs.Prelude.{Err}
use Rattle.answers.specs.Answers.{done, empty_range, too_many}
use Rattle.answers.specs.declared.Refusal.TheVariants.{EmptyRange}
use Rattle.span.specs.Span.{Span, span, inside, given}
use Rattle.span.specs.Operations.{spans_overlap, any}
use Rattle.span.proofs.Tests.{in_no}
use Rattle.key.specs.Rank.{rank, keys}
use Rattle.key.specs.Range.{Kind}
use Rattle.key.specs.declared.Entry.{Entry}
use Rattle.key.proofs.Laws.{rank_below}
use Rattle.relations.specs.Relations as relations
use Rattle.outcomes.specs.Stored.{places, ranges, storing, well_formed}
use Rattle.outcomes.specs.declared.Stored.{Stored}
use Rattle.outcomes.specs.Outcomes.{not_written, Edited, leaving, edit_sound, edit, overlaps_sound, overlaps, overlapping_sound, overlapping, gaps_sound, gaps}
use Rattle.outcomes.specs.Outcomes.{entry_change, bulk_insert_sound, span_edits}
use Rattle.rust_algorithm.specs.Btree.{filtered}
use Rattle.rust_algorithm.specs.Map.{rust_ranges_overlap}
use Rattle.rust_algorithm.specs.InclusiveMap.{inclusive_range_contains, inclusive_ranges_overlap}
use Rattle.rust_algorithm.specs.Answers.{Functions, edited_by}
use Rattle.rust_algorithm.specs.Equal.{LentMap, entry_spans}
use Rattle.rust_algorithm.proofs.InclusiveEdits.{leb_ltb}
use Rattle.rust_algorithm.proofs.Same.{Kept, Transcribed}
use Rattle.rust_algorithm.proofs.Equal.{kept, well, ends_by, edit_equal, edited_is, left, extend_changes}

-- OF EVERY INPUT
-- contains and overlaps of ranges: where one is empty or reversed, the Rust says no
pub contains_says_no : (lo hi k : ℕ) → hi ≤ lo → inside lo hi k ≡ false
contains_says_no lo hi k h = in_no lo hi k (omega arith)

pub overlaps_says_no : (a b c d : ℕ) → b ≤ a → rust_ranges_overlap a b c d ≡ false
unfolding rust_ranges_overlap
overlaps_says_no a b c d h = le-ltb (max a c) (min b d) (omega arith)

pub inclusive_contains_says_no : (lo last k : ℕ) → last < lo → inclusive_range_contains lo last k ≡ false
unfolding inclusive_range_contains inside
inclusive_contains_says_no lo last k h = rw (leb_ltb k last (suc last) refl) (in_no lo (suc last) k (omega arith))

pub inclusive_overlaps_says_no : (a b c d : ℕ) → b < a → inclusive_ranges_overlap a b c d ≡ false
unfolding inclusive_ranges_overlap
inclusive_overlaps_says_no a b c d h = lt-leb (max a c) (min b d) (omega arith)

-- an empty or reversed range
module _ (kind : Kind) (s e : ℤ) (empty : kind.past e ≤ rank s) where
  -- the ledger refuses
  pub contains_refused : (k : ℤ) → relations.range_contains kind s e k ≡ Err EmptyRange
  unfolding relations.range_contains
  contains_refused k = rw (le-leb (kind.past e) (rank s) empty)

  pub overlaps_refused : (s' e' : ℤ) → relations.ranges_overlap kind s e s' e' ≡ Err EmptyRange
  unfolding relations.ranges_overlap
  overlaps_refused s' e' = rw (le-leb (kind.past e) (rank s) empty)

  pub touches_refused : (s' e' : ℤ) → relations.ranges_touch kind s e s' e' ≡ Err EmptyRange
  unfolding relations.ranges_touch
  touches_refused s' e' = rw (le-leb (kind.past e) (rank s) empty)

  module _ (rust : Functions) (transcribed : Transcribed kind rust) (m : Stored) (l : LentMap kind m) where
    is_well : well_formed kind places m ≡ true
    is_well = well kind rust transcribed m l

    is_kept : Kept keys (ranges kind m)
    is_kept = kept kind rust transcribed m is_well

    -- overlapping and overlaps of a map: the Rust gives the ranges with start < the query's end and end > its start, whether it is empty or not
    pub overlaps_answers : (overlaps kind m s e ≡ Err EmptyRange) × (rust.overlaps (rank s) (kind.past e) (ranges kind m)
        ≡ any (spans_overlap (span (rank s) (kind.past e) 0)) (ranges kind m))
    unfolding overlaps overlaps_sound
    overlaps_answers = (
      rw (
        is_well,
        le-leb (kind.past e) (rank s) empty,
      ),
      transcribed.same.overlaps_same (rank s) (kind.past e) (ranges kind m) (transcribed.ends_from e) is_kept,
    )

    pub overlapping_answers : (overlapping kind m s e ≡ Err EmptyRange) × (rust.overlapping (rank s) (kind.past e) (ranges kind m)
        ≡ filtered (spans_overlap (span (rank s) (kind.past e) 0)) (ranges kind m))
    unfolding overlapping overlapping_sound
    overlapping_answers = (
      rw (
        is_well,
        le-leb (kind.past e) (rank s) empty,
      ),
      transcribed.same.overlapping_same (rank s) (kind.past e) (ranges kind m) (transcribed.ends_from e) is_kept,
    )

    -- gaps: the Rust gives no gap
    pub gaps_answers : (starts ends : List ℤ) → (gaps kind m s e starts ends ≡ not_written EmptyRange starts ends)
        × (rust.gaps (rank s) (kind.past e) (ranges kind m) ≡ some [])
    unfolding gaps gaps_sound
    gaps_answers starts ends = (
      rw (is_well, le-leb (kind.past e) (rank s) empty),
      transcribed.same.gaps_none (rank s) (kind.past e) (ranges kind m) (transcribed.ends_from e) empty (rank_below (of_z w64 s)) is_kept,
    )

    -- insert and remove: the Rust panics
    pub edit_panics : (new : Option ℕ) → (edit kind m s e new ≡ leaving empty_range m) × (rust.edit (rank s) (kind.past e) new (ranges kind m) ≡ none)
    unfolding edit edit_sound
    edit_panics new = (
      rw (
        is_well,
        le-leb (kind.past e) (rank s) empty,
      ),
      transcribed.same.edit_panics (rank s) (kind.past e) new (ranges kind m) (transcribed.ends_from e) empty,
    )

-- no empty range, but no room
module _ (kind : Kind) (rust : Functions) (transcribed : Transcribed kind rust) (m : Stored) (l : LentMap kind m) where
  -- one range more than there are places: the Rust has no limit
  pub no_limit : (s e : ℤ) (new : Option ℕ) → rank s < kind.past e → places < length (given (rank s) (kind.past e) new (ranges kind m))
      → (edit kind m s e new ≡ leaving too_many m) × (rust.edit (rank s) (kind.past e) new (ranges kind m) ≡ some
      (given (rank s) (kind.past e) new (ranges kind m)))
  unfolding edit edit_sound
  no_limit s e new h f =
      let w = well kind rust transcribed m l in
      let xs = given (rank s) (kind.past e) new (ranges kind m) in (
        rw (w, lt-leb (kind.past e) (rank s) h, lt-ltb places (length xs) f),
        transcribed.same.edit_same (rank s) (kind.past e) new (ranges kind m) h (ends_by kind rust transcribed e)
            (kept kind rust transcribed m w),
      )

-- BULK INSERT with a bad entry: where the ledger answers 1, extend panics
module _ (kind : Kind) (rust : Functions) (transcribed : Transcribed kind rust) where
  -- an edit that answers 1 is one where the Rust panics
  panicked : (m : Stored) (z : Option (List Span)) → (edited_by kind m z).answer ≡ 1 → z ≡ none
  panicked m none e = refl
  panicked m (some xs) e = absurd (go (ltb places (length xs)) e)
    where
      go : (t : Bool) → (cond t (leaving too_many m) (leaving done (storing kind places xs))).answer ≡ 1 → ⊥
      go true e = omega arith
      go false e = omega arith

  history_panics : (m : Stored) (n : ℕ) (es : List Entry) → LentMap kind m → (bulk_insert_sound kind m n es).told.answer ≡ 1
      → rust.history (span_edits kind (map entry_change es)) (ranges kind m) ≡ none
  unfolding bulk_insert_sound span_edits
  history_panics m n [] l e = absurd (omega arith)
  history_panics m n (x ∷ xs) l e =
      let w = well kind rust transcribed m l in
      let one = edit_sound kind places m x.start x.end (some x.value) in
      let call = rust.edit (rank x.start) (kind.past x.end) (some x.value) (ranges kind m) in
      let is : edited_by kind m call ≡ one
      = sym (edit_equal kind rust transcribed m x.start x.end (some x.value) w) ∙ edited_well w in
      transcribed.same.history_first _ (span_edits kind (map entry_change xs)) (ranges kind m) ∙ (elim (dec_lt 0 one.answer) [
        | yes p ↦
            let told : one.answer ≡ 1 = rw (ne_eqb one.answer 0 (omega arith)) at e in
            let none_left : call ≡ none = panicked m call (ap (λ (o : Edited). o.answer) is ∙ told) in
            rw none_left
        | no p ↦
            let z : one.answer ≡ 0 = omega arith in
            let f = left kind rust transcribed m x.start x.end (some x.value) w (rw (edited_well w) z) in
            let k = kept kind rust transcribed m w in
            let by = ends_by kind rust transcribed x.end in
            let calls : call ≡ some (given (rank x.start) (kind.past x.end) (some x.value) (ranges kind m))
            = transcribed.same.edit_same (rank x.start) (kind.past x.end) (some x.value) (ranges kind m) f.real by k in
            let holds = rw (edited_well w) at f.holds in
            let rest : (bulk_insert_sound kind one.left (suc n) xs).told.answer ≡ 1 = rw (eq-eqb one.answer 0 z) at e in
            let lent : LentMap kind one.left = rw (edited_well w) at f.lent in
            rw (calls, ← holds) (history_panics one.left (suc n) xs lent rest)
      ])
    where
      edited_well : well_formed kind places m ≡ true
          → edit kind m x.start x.end (some x.value) ≡ edit_sound kind places m x.start x.end (some x.value)
      edited_well w = edited_is kind rust transcribed m x.start x.end (some x.value) w

  pub extend_panics : (m : Stored) (es : List Entry) → LentMap kind m → (bulk_insert_sound kind m 0 es).told.answer ≡ 1
      → rust.extend (entry_spans kind es) (ranges kind m) ≡ none
  extend_panics m es l e = extend_changes kind rust transcribed es (ranges kind m) ∙ history_panics m 0 es l e
