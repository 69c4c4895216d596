-- The Rust's functions of one kind, over ranges as spans from lo up to hi; and what the ledger answers, in the words of `outcomes`, by what the Rust answers.
use Prim.Native.Nat.{ℕ, ◌-◌, Ordering}
use Rattle.std.specs.Prelude.{Bool, false, cond, List, [], ◌∷◌, eqb, ltb, length, ℤ, Ok, Err, Some, None}
use Rattle.std.proofs.Math.Option.{Option, some, none}
use Rattle.answers.specs.Answers.{done, empty_range, too_many}
use Rattle.answers.specs.declared.Refusal.TheVariants.{EmptyRange}
use Rattle.span.specs.Span.{Span, inside, Edit}
use Rattle.key.specs.Rank.{rank, key_at}
use Rattle.key.specs.Range.{Kind}
use Rattle.relations.specs.Relations.{Relation, Common, related}
use Rattle.outcomes.specs.Stored.{places, ranges, storing}
use Rattle.outcomes.specs.declared.Stored.{Stored}
use Rattle.outcomes.specs.Outcomes.{Edited, leaving, Change}
use Rattle.outcomes.specs.Answered.{Found, entry}
use Rattle.rust_algorithm.specs.Map.{map_edit, map_history, map_extend, map_get_key_value, map_contains_key, map_overlapping, map_overlaps, map_gaps}
use Rattle.rust_algorithm.specs.Map.{map_eq, map_cmp}
use Rattle.rust_algorithm.specs.InclusiveMap.{inclusive_edit, inclusive_history, inclusive_extend, inclusive_get_key_value, inclusive_contains_key}
use Rattle.rust_algorithm.specs.InclusiveMap.{inclusive_overlapping, inclusive_overlaps, inclusive_gaps, inclusive_eq, inclusive_cmp}
use Rattle.rust_algorithm.specs.Map.{rust_ranges_overlap, rust_ranges_touch}
use Rattle.rust_algorithm.specs.InclusiveMap.{inclusive_range_contains, inclusive_ranges_overlap, inclusive_ranges_touch}
use Rattle.rust_algorithm.specs.Operations.{range_intersect, inclusive_intersect}
use Rattle.rust_algorithm.specs.Operations.{set_union, set_intersection, set_or, set_and}
use Rattle.rust_algorithm.specs.Operations.{inclusive_set_union, inclusive_set_intersection, inclusive_set_or, inclusive_set_and}

-- what rangemap has for one kind of range
pub record Functions : Type 0 where
  pub range_contains : ℕ → ℕ → ℕ → Bool
  pub range_overlaps : ℕ → ℕ → ℕ → ℕ → Bool
  pub range_touches : ℕ → ℕ → ℕ → ℕ → Option Bool
  pub range_intersect : Span → Span → Option Span
  pub edit : ℕ → ℕ → Option ℕ → List Span → Option (List Span)
  pub history : List Edit → List Span → Option (List Span)
  pub extend : List Span → List Span → Option (List Span)
  pub get_key_value : ℕ → List Span → Option Span
  pub contains_key : ℕ → List Span → Bool
  pub overlapping : ℕ → ℕ → List Span → List Span
  pub overlaps : ℕ → ℕ → List Span → Bool
  pub gaps : ℕ → ℕ → List Span → Option (List Span)
  pub eq : List Span → List Span → Bool
  pub cmp : List Span → List Span → Ordering
  pub union : List Span → List Span → Option (List Span)
  pub intersection : List Span → List Span → Option (List Span)
  pub bit_or : List Span → List Span → Option (List Span)
  pub bit_and : List Span → List Span → Option (List Span)

-- of RangeMap and RangeSet
abbrev pub half_open_rust : Functions
half_open_rust = record {
  range_contains = inside;
  range_overlaps = rust_ranges_overlap;
  range_touches = λ a b c d. some (rust_ranges_touch a b c d);
  range_intersect = range_intersect;
  edit = map_edit;
  history = map_history;
  extend = map_extend;
  get_key_value = map_get_key_value;
  contains_key = map_contains_key;
  overlapping = map_overlapping;
  overlaps = map_overlaps;
  gaps = map_gaps;
  eq = map_eq;
  cmp = map_cmp;
  union = set_union;
  intersection = set_intersection;
  bit_or = set_or;
  bit_and = set_and;
}

-- of RangeInclusiveMap and RangeInclusiveSet: the range from lo up to hi is lo..=hi - 1
abbrev pub inclusive_rust : (ℕ → Option ℕ) → (ℕ → Option ℕ) → Functions
inclusive_rust add-one sub-one = record {
  range_contains = λ lo hi k. inclusive_range_contains lo (hi - 1) k;
  range_overlaps = λ a b c d. inclusive_ranges_overlap a (b - 1) c (d - 1);
  range_touches = λ a b c d. inclusive_ranges_touch add-one sub-one a (b - 1) c (d - 1);
  range_intersect = inclusive_intersect;
  edit = inclusive_edit add-one sub-one;
  history = inclusive_history add-one sub-one;
  extend = inclusive_extend add-one sub-one;
  get_key_value = inclusive_get_key_value;
  contains_key = inclusive_contains_key;
  overlapping = λ lo hi m. inclusive_overlapping lo (hi - 1) m;
  overlaps = λ lo hi m. inclusive_overlaps lo (hi - 1) m;
  gaps = λ lo hi m. inclusive_gaps add-one sub-one lo (hi - 1) m;
  eq = inclusive_eq;
  cmp = inclusive_cmp;
  union = inclusive_set_union;
  intersection = inclusive_set_intersection;
  bit_or = inclusive_set_or add-one sub-one;
  bit_and = inclusive_set_and add-one sub-one;
}

-- yes or no of two ranges: 1 where the Rust panics
abbrev pub related_by : Option Bool → Relation
related_by none = Err EmptyRange
related_by (some t) = related false t

-- what two ranges have in common: 5 where there is nothing
abbrev pub common_by : Kind → Option Span → Common
common_by kind none = None
common_by kind (some x) = Some (record { start = key_at x.lo; end = kind.ending x.hi })

-- an entry as an answer: 5 where there is none
abbrev pub rust_found : Kind → Option Span → Found
rust_found kind none = Ok None
rust_found kind (some x) = Ok (Some (entry (key_at x.lo) (kind.ending x.hi) x.label))

-- an edit: 1 where the Rust panics, 2 where it leaves more ranges than a map has places, and else the map that holds what it leaves
abbrev pub edited_by : Kind → Stored → Option (List Span) → Edited
edited_by kind m none = leaving empty_range m
edited_by kind m (some xs) = cond (ltb places (length xs)) (leaving too_many m) (leaving done (storing kind places xs))

module _ (kind : Kind) (rust : Functions) where
  -- AN EDIT, run by the Rust on the ranges that a map holds
  abbrev pub rust_edited : Stored → ℤ → ℤ → Option ℕ → Edited
  rust_edited m s e new = edited_by kind m (rust.edit (rank s) (kind.past e) new (ranges kind m))

  -- EDITS in order, up to the first refusal
  unfoldable pub rust_run : Stored → List Change → Edited
  rust_run m [] = leaving done m
  rust_run m (c ∷ cs) = let one = rust_edited m c.start c.end c.new in cond (eqb one.answer done) (rust_run one.left cs) one
