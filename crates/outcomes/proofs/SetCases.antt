-- Document 01's cases of sets, of both kinds, as theorems about the definitions that the contracts cite: by computation.
use Prim.Native.Nat.{ℕ, ◌-◌, ◌^◌}
use mathlib.Core.Path.{◌≡◌, refl}
use mathlib.Core.List.{List, [], ◌∷◌, map}
use lib.IntN.{ℤ, pos, negsuc}
use Rattle.answers.specs.Answers.{too_short, not_formed, total_over}
use Rattle.span.specs.Span.{inside, keep, before, after, joins, tidy, push, joined}
use Rattle.span.specs.Operations.{within, common_parts, common, spans_overlap, merged, absorb, united, span_total}
use Rattle.key.specs.Rank.{above_least, bit_rank, key_at}
use Rattle.key.specs.Range.{Kind, half_open, inclusive, span_of}
use Rattle.outcomes.specs.Stored.{places, spans, ranges, filled, storing, zeros, noughts, unused, well_formed}
use Rattle.outcomes.specs.declared.Stored.{Stored}
use Rattle.outcomes.specs.Outcomes.{not_written, Written, into_lists}
use Rattle.key.specs.declared.Entry.{Entry}
use Rattle.outcomes.specs.Sets.{plain, total_is, intersection_sound, union_sound, total_sound, intersection, union, total_of}
use Rattle.std.specs.Prelude.{Ok, Err}
use Rattle.answers.specs.declared.Refusal.TheVariants.{TooShort, NotFormed, TotalOver}

-- the set that holds some ranges; with a value that is not 0 it is none
abbrev to : ℤ → ℤ → ℕ → Entry
to s e v = record { start = s; end = e; value = v }

abbrev made : Kind → List Entry → Stored
made kind es = storing kind places (map (λ (x : Entry). span_of kind x.start x.end x.value) es)

abbrev wrote : ℕ → List ℤ → List ℤ → Written
wrote n ss es = record { answer = Ok n; starts = ss; ends = es }

abbrev least : ℤ
least = negsuc (2 ^ 63 - 1)

abbrev greatest : ℤ
greatest = pos (2 ^ 63 - 1)

-- a lent list of three places
abbrev lent : List ℤ
lent = pos 70 ∷ pos 80 ∷ pos 90 ∷ []

-- `unfolding all` opens every definition that a case computes with
unfoldable all : Unit {0}
unfolding inside keep before after joins tidy push joined within common_parts common spans_overlap merged absorb united span_total above_least bit_rank key_at spans ranges filled storing zeros noughts unused well_formed into_lists plain total_is intersection_sound union_sound total_sound intersection union total_of
all = tt

-- Half-open: ranges that only touch stay apart; ranges that overlap become one
union_touching : union half_open (made half_open (to (pos 0) (pos 3) 0 ∷ [])) (made half_open (to (pos 3) (pos 5) 0 ∷ [])) lent lent ≡ wrote 2 (pos 0 ∷ pos 3 ∷ pos 90 ∷ []) (pos 3 ∷ pos 5 ∷ pos 90 ∷ [])
unfolding all
union_touching = refl

union_overlapping : union half_open (made half_open (to (pos 0) (pos 3) 0 ∷ [])) (made half_open (to (pos 2) (pos 5) 0 ∷ [])) lent lent ≡ wrote 1 (pos 0 ∷ pos 80 ∷ pos 90 ∷ []) (pos 5 ∷ pos 80 ∷ pos 90 ∷ [])
unfolding all
union_overlapping = refl

intersect_first : intersection half_open (made half_open (to (pos 0) (pos 5) 0 ∷ [])) (made half_open (to (pos 0) (pos 3) 0 ∷ [])) lent lent ≡ wrote 1 (pos 0 ∷ pos 80 ∷ pos 90 ∷ []) (pos 3 ∷ pos 80 ∷ pos 90 ∷ [])
unfolding all
intersect_first = refl

intersect_second : intersection half_open (made half_open (to (pos 0) (pos 3) 0 ∷ [])) (made half_open (to (pos 0) (pos 5) 0 ∷ [])) lent lent ≡ wrote 1 (pos 0 ∷ pos 80 ∷ pos 90 ∷ []) (pos 3 ∷ pos 80 ∷ pos 90 ∷ [])
unfolding all
intersect_second = refl

intersect_touching : intersection half_open (made half_open (to (pos 0) (pos 3) 0 ∷ [])) (made half_open (to (pos 3) (pos 5) 0 ∷ [])) lent lent ≡ wrote 0 lent lent
unfolding all
intersect_touching = refl

-- the first lent list is too short
union_short : union half_open (made half_open (to (pos 0) (pos 3) 0 ∷ [])) (made half_open (to (pos 3) (pos 5) 0 ∷ [])) (pos 70 ∷ []) lent ≡ not_written TooShort (pos 70 ∷ []) lent
unfolding all
union_short = refl

-- a value that is not 0, in the second set
union_no_set : union half_open (made half_open (to (pos 0) (pos 3) 0 ∷ [])) (made half_open (to (pos 3) (pos 5) 7 ∷ [])) lent lent ≡ not_written NotFormed lent lent
unfolding all
union_no_set = refl

total_half_open : total_of half_open (made half_open (to least greatest 0 ∷ [])) ≡ Ok (2 ^ 64 - 1)
unfolding all
total_half_open = refl

-- Inclusive
inclusive_union_touching : union inclusive (made inclusive (to (pos 0) (pos 2) 0 ∷ [])) (made inclusive (to (pos 3) (pos 5) 0 ∷ [])) lent lent ≡ wrote 2 (pos 0 ∷ pos 3 ∷ pos 90 ∷ []) (pos 2 ∷ pos 5 ∷ pos 90 ∷ [])
unfolding all
inclusive_union_touching = refl

inclusive_union_overlapping : union inclusive (made inclusive (to (pos 0) (pos 2) 0 ∷ [])) (made inclusive (to (pos 2) (pos 5) 0 ∷ [])) lent lent ≡ wrote 1 (pos 0 ∷ pos 80 ∷ pos 90 ∷ []) (pos 5 ∷ pos 80 ∷ pos 90 ∷ [])
unfolding all
inclusive_union_overlapping = refl

inclusive_union_greatest : union inclusive (made inclusive (to (pos 0) greatest 0 ∷ [])) (made inclusive (to greatest greatest 0 ∷ [])) lent lent ≡ wrote 1 (pos 0 ∷ pos 80 ∷ pos 90 ∷ []) (greatest ∷ pos 80 ∷ pos 90 ∷ [])
unfolding all
inclusive_union_greatest = refl

inclusive_intersect : intersection inclusive (made inclusive (to (pos 0) (pos 5) 0 ∷ [])) (made inclusive (to (pos 0) (pos 3) 0 ∷ [])) lent lent ≡ wrote 1 (pos 0 ∷ pos 80 ∷ pos 90 ∷ []) (pos 3 ∷ pos 80 ∷ pos 90 ∷ [])
unfolding all
inclusive_intersect = refl

inclusive_intersect_one_key : intersection inclusive (made inclusive (to (pos 0) (pos 3) 0 ∷ [])) (made inclusive (to (pos 3) (pos 5) 0 ∷ [])) lent lent ≡ wrote 1 (pos 3 ∷ pos 80 ∷ pos 90 ∷ []) (pos 3 ∷ pos 80 ∷ pos 90 ∷ [])
unfolding all
inclusive_intersect_one_key = refl

-- the full range is accepted; its total, 2^64, is 9
inclusive_total_full : total_of inclusive (made inclusive (to least greatest 0 ∷ [])) ≡ Err TotalOver
unfolding all
inclusive_total_full = refl

inclusive_total_fewer : total_of inclusive (made inclusive (to least (pos (2 ^ 63 - 2)) 0 ∷ [])) ≡ Ok (2 ^ 64 - 1)
unfolding all
inclusive_total_fewer = refl
