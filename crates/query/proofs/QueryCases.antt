-- Document 01's query on a day's log, and its refusals in order, as theorems about the definitions that the contracts cite: by computation.
-- And the answers that the promise rules out: no function that always refuses meets it, nor one that never finds a range.
use Prim.Native.Nat.{ℕ, ◌-◌, ◌^◌}
use native.Mathlib.Omega.{arith}
use mathlib.Core.Path.{◌≡◌, refl, sym, ap, ◌∙◌}
use mathlib.Core.Bool.{Bool, true, false}
use mathlib.Core.List.{List, [], ◌∷◌, map}
use lib.IntN.{ℤ, pos, negsuc}
use Rattle.span.specs.Span.{inside, at, keep, before, after, joins, tidy, push, joined, given, history}
use Rattle.span.specs.Labels.{relabelled}
use Rattle.span.specs.Operations.{puts, cuts, uncovered, laid_over, within, common_parts, common, chosen}
use Rattle.key.specs.Rank.{above_least, bit_rank, key_at}
use Rattle.key.specs.Range.{half_open, span_of}
use Rattle.outcomes.specs.Stored.{places, spans, ranges, filled, storing, zeros, noughts, unused, well_formed}
use Rattle.outcomes.specs.declared.Stored.{Stored}
use Rattle.outcomes.specs.Numbers.{counted_in_c, asked_in_c}
use Rattle.outcomes.specs.Outcomes.{not_written, Written, Listed, into_lists}
use Rattle.key.specs.declared.Entry.{Entry}
use Rattle.outcomes.specs.declared.Count.{Count}
use Rattle.outcomes.specs.declared.Told.{Told}
use Rattle.query_text.specs.Grammar.{first, second}
use Rattle.query_text.specs.Meaning.{truth}
use Rattle.query_text.specs.Reader.{query_of, read_level, read_steps, digit_then, atom, closed}
use Rattle.query_text.proofs.Unambiguous.{taken}
use Rattle.query_text.proofs.Alike.{both_swaps, no_either}
use Rattle.query_text.proofs.Cases01.{bytes}
use Rattle.query.specs.Result.{result, is_true}
use Rattle.query.specs.Answers.{query_ranges_sound, query_at_sound, query_ranges, query_at}
use Rattle.query.proofs.WrittenLaws.{same_written}
use Rattle.std.specs.Prelude.{Ok, Err}
use Rattle.answers.specs.declared.Refusal.TheVariants.{EmptyRange, TooShort, NotFormed, BadQuery}

-- a range with a value, and the map that holds some of them
abbrev to : ℤ → ℤ → ℕ → Entry
to s e v = record { start = s; end = e; value = v }

abbrev made : List Entry → Stored
made es = storing half_open places (map (λ (x : Entry). span_of half_open x.start x.end x.value) es)

-- what is answered and written
abbrev wrote : ℕ → List ℤ → List ℤ → Written
wrote n ss es = record { answer = Ok n; starts = ss; ends = es }

-- a lent list of three places, and one of one
abbrev lent : List ℤ
lent = pos 70 ∷ pos 80 ∷ pos 90 ∷ []

abbrev short : List ℤ
short = pos 70 ∷ []

-- `unfolding all` opens every definition that a case computes with: of spans, of maps, of queries
unfoldable of_spans : Unit {0}
unfolding inside at keep before after joins tidy push joined given history puts cuts uncovered laid_over within common_parts common relabelled chosen
of_spans = tt

unfoldable of_maps : Unit {0}
unfolding above_least bit_rank key_at spans ranges filled storing zeros noughts unused well_formed into_lists
of_maps = tt

unfoldable all : Unit {0}
unfolding of_spans of_maps truth query_of read_level read_steps digit_then atom closed bytes result is_true query_ranges_sound query_at_sound query_ranges query_at
all = tt

-- two logs: the first drives (3) from 2 to 8 and rests (1) from 8 to 10; the second is off duty (1) from 4 to 6
abbrev driver : Stored
driver = made (to (pos 2) (pos 8) 3 ∷ to (pos 8) (pos 10) 1 ∷ [])

abbrev mate : Stored
mate = made (to (pos 4) (pos 6) 1 ∷ [])

-- the least and the greatest key
abbrev least : ℤ
least = negsuc (2 ^ 63 - 1)

abbrev greatest : ℤ
greatest = pos (2 ^ 63 - 1)

-- a map that is not well formed: a range is reversed
abbrev broken : Stored
broken = made (to (pos 5) (pos 3) 1 ∷ [])

-- `A3&!B1`: the first drives while the second is not off duty. Places past the count are as they were
two_ranges : query_ranges driver mate (pos 0) (pos 20) (bytes "A3&!B1") lent lent ≡ wrote 2 (pos 2 ∷ pos 6 ∷ pos 90 ∷ []) (pos 4 ∷ pos 8 ∷ pos 90 ∷ [])
unfolding all
two_ranges = refl

-- the window cuts ranges
window_cuts : query_ranges driver mate (pos 3) (pos 7) (bytes "A3&!B1") lent lent ≡ wrote 2 (pos 3 ∷ pos 6 ∷ pos 90 ∷ []) (pos 4 ∷ pos 7 ∷ pos 90 ∷ [])
unfolding all
window_cuts = refl

-- `!` is relative to the window, and a range goes on where what is held changes but the truth does not
not_in_window : query_ranges driver mate (pos 0) (pos 5) (bytes "!A3") lent lent ≡ wrote 1 (pos 0 ∷ pos 80 ∷ pos 90 ∷ []) (pos 2 ∷ pos 80 ∷ pos 90 ∷ [])
unfolding all
not_in_window = refl

not_goes_on : query_ranges driver mate (pos 0) (pos 20) (bytes "!A3") lent lent ≡ wrote 2 (pos 0 ∷ pos 8 ∷ pos 90 ∷ []) (pos 2 ∷ pos 20 ∷ pos 90 ∷ [])
unfolding all
not_goes_on = refl

either_goes_on : query_ranges driver mate (pos 0) (pos 20) (bytes "A3|A1") lent lent ≡ wrote 1 (pos 2 ∷ pos 80 ∷ pos 90 ∷ []) (pos 10 ∷ pos 80 ∷ pos 90 ∷ [])
unfolding all
either_goes_on = refl

-- no instant is true: done, with no range
no_range : query_ranges driver mate (pos 0) (pos 20) (bytes "A7") lent lent ≡ wrote 0 (pos 70 ∷ pos 80 ∷ pos 90 ∷ []) (pos 70 ∷ pos 80 ∷ pos 90 ∷ [])
unfolding all
no_range = refl

-- from the least key up to the greatest
all_keys : query_ranges driver mate least greatest (bytes "A3|!A3") lent lent ≡ wrote 1 (least ∷ pos 80 ∷ pos 90 ∷ []) (greatest ∷ pos 80 ∷ pos 90 ∷ [])
unfolding all
all_keys = refl

-- as many ranges as there can be: one more than the two maps hold
most_ranges : query_ranges (made (to (pos 1) (pos 2) 1 ∷ [])) (made (to (pos 3) (pos 4) 1 ∷ [])) (pos 0) (pos 9) (bytes "!A1&!B1") lent lent
    ≡ wrote 3 (pos 0 ∷ pos 2 ∷ pos 4 ∷ []) (pos 1 ∷ pos 3 ∷ pos 9 ∷ [])
unfolding all
most_ranges = refl

-- REFUSALS in order: 4 before 1, 1 before 7, 7 before 3; the lent lists are as they were
first_broken : query_ranges broken mate (pos 4) (pos 4) (bytes "") lent lent ≡ not_written NotFormed lent lent
unfolding all
first_broken = refl

second_broken : query_ranges driver broken (pos 0) (pos 20) (bytes "A3") lent lent ≡ not_written NotFormed lent lent
unfolding all
second_broken = refl

empty_window : query_ranges driver mate (pos 4) (pos 4) (bytes "A3&") lent lent ≡ not_written EmptyRange lent lent
unfolding all
empty_window = refl

reversed_window : query_ranges driver mate (pos 9) (pos 4) (bytes "A3") lent lent ≡ not_written EmptyRange lent lent
unfolding all
reversed_window = refl

bad_query_lem : query_ranges driver mate (pos 0) (pos 20) (bytes "A3&") [] [] ≡ not_written BadQuery [] []
unfolding all
bad_query_lem = refl

no_query_lem : query_ranges driver mate (pos 0) (pos 20) (bytes "") lent lent ≡ not_written BadQuery lent lent
unfolding all
no_query_lem = refl

first_short : query_ranges driver mate (pos 0) (pos 20) (bytes "A3&!B1") short lent ≡ not_written TooShort short lent
unfolding all
first_short = refl

second_short : query_ranges driver mate (pos 0) (pos 20) (bytes "A3&!B1") lent short ≡ not_written TooShort lent short
unfolding all
second_short = refl

-- ONE INSTANT: a start is in its range, an end is not, and outside the window the answer is no
at_start : query_at driver mate (pos 0) (pos 20) (bytes "A3&!B1") (pos 2) ≡ (Ok true)
unfolding all
at_start = refl

at_end : query_at driver mate (pos 0) (pos 20) (bytes "A3&!B1") (pos 4) ≡ (Ok false)
unfolding all
at_end = refl

at_outside : query_at driver mate (pos 0) (pos 5) (bytes "A3&!B1") (pos 7) ≡ (Ok false)
unfolding all
at_outside = refl

at_outside_not : query_at driver mate (pos 0) (pos 5) (bytes "!A3") (pos 15) ≡ (Ok false)
unfolding all
at_outside_not = refl

at_broken : query_at driver broken (pos 4) (pos 4) (bytes "") (pos 2) ≡ Err NotFormed
unfolding all
at_broken = refl

at_empty_window : query_at driver mate (pos 4) (pos 4) (bytes "") (pos 2) ≡ Err EmptyRange
unfolding all
at_empty_window = refl

at_bad_query : query_at driver mate (pos 0) (pos 20) (bytes "A") (pos 2) ≡ Err BadQuery
unfolding all
at_bad_query = refl

-- OF ANY MAPS: `A1&B2` and `B2&A1` have one outcome, and `!(A1|B2)` and `!A1&!B2`
either_way : (a b : Stored) (s e : ℤ) (os oe : List ℤ) → query_ranges a b s e (bytes "A1&B2") os oe ≡ query_ranges a b s e (bytes "B2&A1") os oe
unfolding all
either_way a b s e = same_written a b s e (both_swaps (first 1) (second 2)) ((taken (bytes "A1&B2") _).taken_is refl) ((taken (bytes "B2&A1") _).taken_is refl)

de_morgan : (a b : Stored) (s e : ℤ) (os oe : List ℤ) → query_ranges a b s e (bytes "!(A1|B2)") os oe ≡ query_ranges a b s e (bytes "!A1&!B2") os oe
unfolding all
de_morgan a b s e = same_written a b s e (no_either (first 1) (second 2)) ((taken (bytes "!(A1|B2)") _).taken_is refl) ((taken (bytes "!A1&!B2") _).taken_is refl)

-- WHAT THE PROMISE RULES OUT. A reply is the number and the count, and what the lent lists hold then
pub record Reply : Type 0 where
  pub told : Count
  pub starts : List ℤ
  pub ends : List ℤ

-- anything that answers for the entry for ranges, and that it meets the promise at every input
abbrev pub Answerer : Type 0
Answerer = Stored → Stored → ℤ → ℤ → List ℕ → List ℤ → List ℤ → Reply

abbrev pub Meets : Answerer → Type 0
Meets f = (a b : Stored) (s e : ℤ) (w : List ℕ) (os oe : List ℤ)
    → Listed (f a b s e w os oe).told (f a b s e w os oe).starts (f a b s e w os oe).ends (query_ranges a b s e w os oe)

-- on the day above it tells two ranges
tells_two : (f : Answerer) → Meets f → (f driver mate (pos 0) (pos 20) (bytes "A3&!B1") lent lent).told ≡ record { answer = 0; count = 2 }
tells_two f meets = (meets driver mate (pos 0) (pos 20) (bytes "A3&!B1") lent lent).number ∙ ap (λ (w : Written). counted_in_c w.answer) two_ranges

-- to refuse always with one number, 7 or any other, does not meet it
pub not_always_refused : (f : Answerer) → Meets f → (n : ℕ) → (n ≡ 0 → ⊥)
    → ((a b : Stored) (s e : ℤ) (w : List ℕ) (os oe : List ℤ) → (f a b s e w os oe).told.answer ≡ n) → ⊥
not_always_refused f meets n other always =
    other (sym (always driver mate (pos 0) (pos 20) (bytes "A3&!B1") lent lent) ∙ ap (λ (r : Count). r.answer) (tells_two f meets))

pub not_always_7 : (f : Answerer) → Meets f → ((a b : Stored) (s e : ℤ) (w : List ℕ) (os oe : List ℤ) → (f a b s e w os oe).told.answer ≡ 7) → ⊥
not_always_7 f meets = not_always_refused f meets 7 (omega arith)

-- nor to answer always with no range
pub not_always_none : (f : Answerer) → Meets f → ((a b : Stored) (s e : ℤ) (w : List ℕ) (os oe : List ℤ) → (f a b s e w os oe).told.count ≡ 0) → ⊥
not_always_none f meets always =
    let z : ◌≡◌ {A = ℕ} 0 2 = sym (always driver mate (pos 0) (pos 20) (bytes "A3&!B1") lent lent) ∙ ap (λ (r : Count). r.count) (tells_two f meets) in
    omega arith

-- the same of the entry for one instant: always one number but 0, always no, always yes
abbrev pub AnswererAt : Type 0
AnswererAt = Stored → Stored → ℤ → ℤ → List ℕ → ℤ → Told

abbrev pub MeetsAt : AnswererAt → Type 0
MeetsAt f = (a b : Stored) (s e : ℤ) (w : List ℕ) (k : ℤ) → f a b s e w k ≡ asked_in_c (query_at a b s e w k)

-- at 2 it tells yes, and at 4 no
tells_yes : (f : AnswererAt) → MeetsAt f → f driver mate (pos 0) (pos 20) (bytes "A3&!B1") (pos 2) ≡ record { answer = 0; yes = true }
tells_yes f meets = meets driver mate (pos 0) (pos 20) (bytes "A3&!B1") (pos 2) ∙ ap asked_in_c at_start

tells_no : (f : AnswererAt) → MeetsAt f → f driver mate (pos 0) (pos 20) (bytes "A3&!B1") (pos 4) ≡ record { answer = 0; yes = false }
tells_no f meets = meets driver mate (pos 0) (pos 20) (bytes "A3&!B1") (pos 4) ∙ ap asked_in_c at_end

pub not_always_refused_at : (f : AnswererAt) → MeetsAt f → (n : ℕ) → (n ≡ 0 → ⊥)
    → ((a b : Stored) (s e : ℤ) (w : List ℕ) (k : ℤ) → (f a b s e w k).answer ≡ n) → ⊥
not_always_refused_at f meets n other always =
    other (sym (always driver mate (pos 0) (pos 20) (bytes "A3&!B1") (pos 2)) ∙ ap (λ (r : Told). r.answer) (tells_yes f meets))

-- the answers at the two keys differ
pub not_always_same : (f : AnswererAt) → MeetsAt f → (t : Bool) → ((a b : Stored) (s e : ℤ) (w : List ℕ) (k : ℤ) → (f a b s e w k).yes ≡ t) → ⊥
not_always_same f meets t always =
    let yes-it = always driver mate (pos 0) (pos 20) (bytes "A3&!B1") (pos 2) in
    let no-it = always driver mate (pos 0) (pos 20) (bytes "A3&!B1") (pos 4) in
    let tells = tells_yes f meets in
    let denies = tells_no f meets in
    let z : ◌≡◌ {A = ℕ} 0 1 = cc in
    omega arith
