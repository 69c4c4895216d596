-- What the theorems of one kind come to: the Rust's functions are those of the theory of spans, on lists that end by a limit. Both kinds have it.
use Prim.Native.Nat.{ℕ, suc, ◌-◌, ◌^◌, ◌≤◌, ◌<◌, min, max}
use native.Mathlib.Omega.{arith}
use native.Mathlib.Decide.{dec_lt}
use mathlib.Core.Path.{◌≡◌, refl, ap, ◌∙◌}
use mathlib.Core.List.{List, [], ◌∷◌}
use mathlib.Core.Option.{Option, some, none}
use lib.IntN.{ℤ}
use borrow.Author.Tests.{lt-ltb, le-ltb, le-leb, lt-leb}
use Rattle.span.specs.Span.{Span, span, inside, Upto, Tidy, Edit, given, history, Real}
use Rattle.span.specs.Operations.{puts, laid_over, common, united, spans_overlap, any, holds, uncovered, span_order}
use Rattle.span.proofs.Walks.{Spaced}
use Rattle.key.specs.Rank.{keys}
use Rattle.key.specs.Range.{Kind, half_open, inclusive}
use Rattle.key.proofs.Lawful.{Lawful, half_open_lawful, inclusive_too}
use Rattle.relations.specs.Relations.{spans_touch}
use Rattle.outcomes.specs.Outcomes.{is_equal}
use Rattle.rust_algorithm.specs.Btree.{rust_then, filtered, next}
use Rattle.rust_algorithm.specs.Map.{rust_ranges_overlap, rust_ranges_touch, map_edit, map_history}
use Rattle.rust_algorithm.specs.InclusiveMap.{StepFns, inclusive_range_contains, inclusive_edit, inclusive_history}
use Rattle.rust_algorithm.specs.Operations.{range_intersect}
use Rattle.rust_algorithm.specs.Answers.{Functions, half_open_rust, inclusive_rust}
use Rattle.rust_algorithm.proofs.Insert.{insert_panics}
use Rattle.rust_algorithm.proofs.Remove.{remove_panics}
use Rattle.rust_algorithm.proofs.History.{edit_is, history_is, extend_history}
use Rattle.rust_algorithm.proofs.Gaps.{gaps_is, gaps_empty}
use Rattle.rust_algorithm.proofs.InclusiveEdits.{sound, leb_ltb, overlap_same, touch_same, inclusive_insert_panics, inclusive_remove_panics}
use Rattle.rust_algorithm.proofs.InclusiveHistory.{By, inclusive_edit_is, inclusive_history_is, inclusive_extend_history}
use Rattle.rust_algorithm.proofs.InclusiveGaps.{inclusive_gaps_is, inclusive_gaps_empty}
use Rattle.rust_algorithm.proofs.Queries.{get_key_value_is, contains_is, overlapping_is, overlaps_is, cmp_is, eq_is}
use Rattle.rust_algorithm.proofs.Queries.{inclusive_get_key_value_is, inclusive_contains_is, inclusive_overlapping_is, inclusive_overlaps_is}
use Rattle.rust_algorithm.proofs.Queries.{inclusive_cmp_is, inclusive_eq_is}
use Rattle.rust_algorithm.proofs.Union.{union_is, inclusive_union_is}
use Rattle.rust_algorithm.proofs.Intersection.{last_intersect, intersection_is, inclusive_intersection_is}
use Rattle.rust_algorithm.proofs.Collected.{or_is, and_is, inclusive_or_is, inclusive_and_is}

-- tidy, and ending by the limit
pub record Kept (limit : ℕ) (m : List Span) : Type 0 where
  pub tidy : Tidy 0 m
  pub upto : Upto limit m

-- a set besides: the ranges have the label 0
pub record KeptSet (limit : ℕ) (m : List Span) : Type 0 where
  pub tidy : Tidy 0 m
  pub upto : Upto limit m
  pub spaced : Spaced 0 m

-- first is the least rank that a range of the kind can end with
pub record Same (rust : Functions) (first limit : ℕ) : Type 0 where
  pub contains_range : (lo hi k : ℕ) → first ≤ hi → rust.range_contains lo hi k ≡ inside lo hi k
  pub overlaps_range : (a b c d : ℕ) → a < b → c < d → rust.range_overlaps a b c d ≡ spans_overlap (span a b 0) (span c d 0)
  pub touches_range : (a b c d : ℕ) → a < b → c < d → b ≤ limit → d ≤ limit → rust.range_touches a b c d ≡ some (spans_touch (span a b 0) (span c d 0))
  pub intersect_range : (x y : Span) → first ≤ x.hi → first ≤ y.hi → rust.range_intersect x y ≡ range_intersect x y
  pub edit_same : (lo hi : ℕ) (new : Option ℕ) (m : List Span) → lo < hi → hi ≤ limit → Kept limit m → rust.edit lo hi new m ≡ some (given lo hi new m)
  pub edit_panics : (lo hi : ℕ) (new : Option ℕ) (m : List Span) → first ≤ hi → hi ≤ lo → rust.edit lo hi new m ≡ none
  pub history_first : (x : Edit) (es : List Edit) (m : List Span)
      → rust.history (x ∷ es) m ≡ rust_then (rust.edit x.lo x.hi x.new m) (rust.history es)
  pub history_same : (es : List Edit) (m : List Span) → Real es → By limit es → Kept limit m → rust.history es m ≡ some (history es m)
  pub extend_same : (xs m : List Span) → rust.extend xs m ≡ rust.history (puts xs) m
  pub get_same : (k : ℕ) (m : List Span) → Kept limit m → rust.get_key_value k m ≡ next (filtered (holds k) m)
  pub contains_same : (k : ℕ) (m : List Span) → Kept limit m → rust.contains_key k m ≡ any (holds k) m
  -- these two also where the query is empty or reversed
  pub overlapping_same : (lo hi : ℕ) (m : List Span) → first ≤ hi → Kept limit m → rust.overlapping lo hi m ≡ filtered (spans_overlap (span lo hi 0)) m
  pub overlaps_same : (lo hi : ℕ) (m : List Span) → first ≤ hi → Kept limit m → rust.overlaps lo hi m ≡ any (spans_overlap (span lo hi 0)) m
  pub gaps_same : (lo hi : ℕ) (m : List Span) → lo < hi → hi ≤ limit → Kept limit m → rust.gaps lo hi m ≡ some (uncovered lo hi m)
  pub gaps_none : (lo hi : ℕ) (m : List Span) → first ≤ hi → hi ≤ lo → lo < limit → Kept limit m → rust.gaps lo hi m ≡ some []
  pub eq_same : (a b : List Span) → Kept limit a → Kept limit b → rust.eq a b ≡ is_equal (span_order a b)
  pub cmp_same : (a b : List Span) → Kept limit a → Kept limit b → rust.cmp a b ≡ span_order a b
  pub union_same : (a b : List Span) → KeptSet limit a → KeptSet limit b → rust.union a b ≡ some (united a b)
  pub intersection_same : (a b : List Span) → KeptSet limit a → KeptSet limit b → rust.intersection a b ≡ some (common a b)
  pub or_same : (a b : List Span) → KeptSet limit a → KeptSet limit b → rust.bit_or a b ≡ some (laid_over a b)
  pub and_same : (a b : List Span) → KeptSet limit a → KeptSet limit b → rust.bit_and a b ≡ some (common a b)

-- two ranges that are not empty
overlap_is : (a b c d : ℕ) → a < b → c < d → rust_ranges_overlap a b c d ≡ spans_overlap (span a b 0) (span c d 0)
unfolding rust_ranges_overlap spans_overlap
overlap_is a b c d h i = elim (dec_lt a d) [
  | yes p ↦ elim (dec_lt c b) [
    | yes q ↦ rw (lt-ltb (max a c) (min b d) (omega arith), lt-ltb a d p, lt-ltb c b q)
    | no q ↦ rw (le-ltb (max a c) (min b d) (omega arith), lt-ltb a d p, le-ltb c b (omega arith))
  ]
  | no p ↦ rw (le-ltb (max a c) (min b d) (omega arith), le-ltb a d (omega arith))
]

touch_is : (a b c d : ℕ) → a < b → c < d → rust_ranges_touch a b c d ≡ spans_touch (span a b 0) (span c d 0)
unfolding rust_ranges_touch spans_touch
touch_is a b c d h i = elim (dec_lt d a) [
  | yes p ↦ rw (lt-leb (max a c) (min b d) (omega arith), lt-leb a d p)
  | no p ↦ elim (dec_lt b c) [
    | yes q ↦ rw (lt-leb (max a c) (min b d) (omega arith), le-leb a d (omega arith), lt-leb c b q)
    | no q ↦ rw (le-leb (max a c) (min b d) (omega arith), le-leb a d (omega arith), le-leb c b (omega arith))
  ]
]

map_edit_panics : (lo hi : ℕ) (new : Option ℕ) (m : List Span) → hi ≤ lo → map_edit lo hi new m ≡ none
unfolding map_edit
map_edit_panics lo hi none m h = remove_panics lo hi m h
map_edit_panics lo hi (some v) m h = insert_panics lo hi v m h

-- RangeMap and RangeSet, whatever the limit
pub half_open_same : (limit : ℕ) → Same half_open_rust 0 limit
half_open_same limit = record {
  contains_range = λ lo hi k h. refl;
  overlaps_range = overlap_is;
  touches_range = λ a b c d h i j k. ap some (touch_is a b c d h i);
  intersect_range = λ x y h i. refl;
  edit_same = λ lo hi new m h i k. edit_is lo hi new m h k.tidy;
  edit_panics = λ lo hi new m h i. map_edit_panics lo hi new m i;
  history_first = λ x es m. unfold map_history in refl;
  history_same = λ es m r b k. history_is es m r k.tidy;
  extend_same = extend_history;
  get_same = λ k m w. get_key_value_is k m w.tidy.ordered;
  contains_same = λ k m w. contains_is k m w.tidy.ordered;
  overlapping_same = λ lo hi m h k. overlapping_is lo hi m k.tidy.ordered;
  overlaps_same = λ lo hi m h k. overlaps_is lo hi m k.tidy.ordered;
  gaps_same = λ lo hi m h i k. gaps_is lo hi m h k.tidy.ordered;
  gaps_none = λ lo hi m h i j k. gaps_empty lo hi m i k.tidy.ordered;
  eq_same = λ a b k w. eq_is a b;
  cmp_same = λ a b k w. cmp_is a b;
  union_same = λ a b s t. union_is a b s.spaced t.spaced;
  intersection_same = λ a b s t. intersection_is a b s.spaced t.spaced;
  or_same = λ a b s t. or_is a b s.spaced t.spaced t.tidy;
  and_same = λ a b s t. and_is a b s.spaced t.spaced t.tidy;
}

-- RangeInclusiveMap and RangeInclusiveSet, where the limit is one past the greatest key
module _ (add-one sub-one : ℕ → Option ℕ) (greatest : ℕ) (steps : StepFns add-one sub-one greatest) where
  inclusive_edit_panics : (lo hi : ℕ) (new : Option ℕ) (m : List Span) → 0 < hi → hi ≤ lo → inclusive_edit add-one sub-one lo hi new m ≡ none
  unfolding inclusive_edit
  inclusive_edit_panics lo hi none m h i = inclusive_remove_panics add-one sub-one greatest steps lo (hi - 1) m (omega arith)
  inclusive_edit_panics lo hi (some v) m h i = inclusive_insert_panics add-one sub-one greatest steps lo (hi - 1) v m (omega arith)

  contains_last : (lo hi k : ℕ) → 0 < hi → inclusive_range_contains lo (hi - 1) k ≡ inside lo hi k
  unfolding inclusive_range_contains inside
  contains_last lo hi k h = rw (leb_ltb k (hi - 1) hi (omega arith))

  pub inclusive_same : Same (inclusive_rust add-one sub-one) 1 (suc greatest)
  inclusive_same = record {
    contains_range = λ lo hi k h. contains_last lo hi k h;
    overlaps_range = λ a b c d h i. overlap_same a b c d h i ∙ overlap_is a b c d h i;
    touches_range = λ a b c d h i j k. touch_same add-one sub-one greatest steps a b c d h i j k ∙ ap some (touch_is a b c d h i);
    intersect_range = last_intersect;
    edit_same = λ lo hi new m h i k. inclusive_edit_is add-one sub-one greatest steps lo hi new m h i k.tidy k.upto;
    edit_panics = inclusive_edit_panics;
    history_first = λ x es m. unfold inclusive_history in refl;
    history_same = λ es m r b k. inclusive_history_is add-one sub-one greatest steps es m r b k.tidy k.upto;
    extend_same = inclusive_extend_history add-one sub-one greatest steps;
    get_same = λ k m w. inclusive_get_key_value_is k (suc greatest) m w.tidy.ordered w.upto ∙ get_key_value_is k m w.tidy.ordered;
    contains_same = λ k m w. inclusive_contains_is k (suc greatest) m w.tidy.ordered w.upto;
    overlapping_same = λ lo hi m h k. let whole : suc (hi - 1) ≡ hi = omega arith in
        inclusive_overlapping_is lo (hi - 1) (suc greatest) m k.tidy.ordered k.upto ∙ rw whole (overlapping_is lo hi m k.tidy.ordered);
    overlaps_same = λ lo hi m h k. let whole : suc (hi - 1) ≡ hi = omega arith in
        inclusive_overlaps_is lo (hi - 1) (suc greatest) m k.tidy.ordered k.upto ∙ rw whole (overlaps_is lo hi m k.tidy.ordered);
    gaps_same = λ lo hi m h i k. let whole : suc (hi - 1) ≡ hi = omega arith in
        inclusive_gaps_is add-one sub-one greatest steps lo (hi - 1) m (omega arith) (omega arith) k.tidy.ordered k.upto ∙ rw whole;
    gaps_none = λ lo hi m h i j k.
        inclusive_gaps_empty add-one sub-one greatest steps lo (hi - 1) m (omega arith) (omega arith) k.tidy.ordered k.upto;
    eq_same = λ a b k w.
        inclusive_eq_is (suc greatest) a b (sound (suc greatest) 0 a k.tidy.ordered k.upto) (sound (suc greatest) 0 b w.tidy.ordered w.upto)
        ∙ eq_is a b;
    cmp_same = λ a b k w.
        inclusive_cmp_is (suc greatest) a b (sound (suc greatest) 0 a k.tidy.ordered k.upto) (sound (suc greatest) 0 b w.tidy.ordered w.upto)
        ∙ cmp_is a b;
    union_same = λ a b s t. inclusive_union_is a b s.spaced t.spaced;
    intersection_same = λ a b s t. inclusive_intersection_is a b s.spaced t.spaced;
    or_same = λ a b s t. inclusive_or_is add-one sub-one greatest steps a b s.spaced t.spaced t.tidy s.upto t.upto;
    and_same = λ a b s t. inclusive_and_is add-one sub-one greatest steps a b s.spaced t.spaced t.tidy s.upto t.upto;
  }

-- A KIND and the Rust's functions of it: what the theorem asks of the two
pub record Transcribed (kind : Kind) (rust : Functions) : Type 0 where
  pub law : Lawful kind
  pub least : ℕ
  pub ends_from : (e : ℤ) → least ≤ kind.past e
  pub same : Same rust least keys

pub half_open_map : Transcribed half_open half_open_rust
half_open_map = record { law = half_open_lawful; least = 0; ends_from = λ e. omega arith; same = half_open_same keys }

ends_later : (e : ℤ) → 1 ≤ inclusive.past e
ends_later e = omega arith

-- for any steps that are right below the greatest key
pub inclusive_map : (add-one sub-one : ℕ → Option ℕ) → StepFns add-one sub-one (2 ^ 64 - 1) → Transcribed inclusive (inclusive_rust add-one sub-one)
inclusive_map add-one sub-one steps =
    record { law = inclusive_too; least = 1; ends_from = ends_later; same = inclusive_same add-one sub-one (2 ^ 64 - 1) steps }
