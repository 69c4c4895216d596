-- Document 01, module 1: contains, overlaps, touches and intersect, of spans of ranks, and so of both kinds of range.
-- `kind` is `half_open` or `inclusive`.
use Rattle.std.specs.Prelude.{Bool, true, false, ◌&&◌, ◌||◌, cond, leb, Result, Ok, Err, Option, Some, None, ℤ, pos}
use Rattle.answers.specs.Answers.{done, none_there}
use Rattle.answers.specs.Refusals.{number}
use Rattle.answers.specs.declared.Refusal.{Refusal}
use Rattle.answers.specs.declared.Refusal.TheVariants.{EmptyRange}
use Rattle.span.specs.Span.{Span, inside}
use Rattle.span.specs.Operations.{spans_overlap}
use Rattle.key.specs.Rank.{rank, lesser, greater}
use Rattle.key.specs.Range.{Kind, span_of, empty}
use Rattle.key.specs.declared.Bounds.{Bounds}
use Rattle.relations.specs.declared.Related.{Related}
use Rattle.relations.specs.declared.Intersected.{Intersected}

-- two ranges touch where nothing lies between them; so ranges that overlap touch too
unfoldable pub spans_touch : Span → Span → Bool
spans_touch x y = leb x.lo y.hi && leb y.lo x.hi

-- whether two ranges are related; there is no answer for a range that is empty or reversed
abbrev pub Relation : Type 0
Relation = Result Bool Refusal

-- what two ranges have in common, if they have a key in common
abbrev pub Common : Type 0
Common = Option Bounds

-- yes or no, unless a range is empty or reversed
abbrev pub related : Bool → Bool → Relation
related true held = Err EmptyRange
related false held = Ok held

-- CONTAINS: is the key in the range
unfoldable pub range_contains : Kind → ℤ → ℤ → ℤ → Relation
range_contains kind s e k = let x = span_of kind s e 0 in related (empty x) (inside x.lo x.hi (rank k))

-- OVERLAPS: is there a key in both
unfoldable pub ranges_overlap : Kind → ℤ → ℤ → ℤ → ℤ → Relation
ranges_overlap kind s e s' e' = let x = span_of kind s e 0 in let y = span_of kind s' e' 0 in related (empty x || empty y) (spans_overlap x y)

-- TOUCHES: does nothing lie between them
unfoldable pub ranges_touch : Kind → ℤ → ℤ → ℤ → ℤ → Relation
ranges_touch kind s e s' e' = let x = span_of kind s e 0 in let y = span_of kind s' e' 0 in related (empty x || empty y) (spans_touch x y)

-- INTERSECT, of any pair: from the greater start to the lesser end, if a key is left
unfoldable pub ranges_intersect : Kind → ℤ → ℤ → ℤ → ℤ → Common
ranges_intersect kind s e s' e' = let a = greater s s' in let b = lesser e e' in cond (empty (span_of kind a b 0)) None (Some (record { start = a; end = b }))

-- the number and the values of each answer
abbrev pub relation_in_c : Relation → Related
relation_in_c (Ok held) = record { answer = done; yes = held }
relation_in_c (Err why) = record { answer = number why; yes = false }

abbrev pub common_in_c : Common → Intersected
common_in_c (Some x) = record { answer = done; start = x.start; end = x.end }
common_in_c None = record { answer = none_there; start = pos 0; end = pos 0 }
