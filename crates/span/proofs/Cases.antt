-- Document 01's cases that are about lists of spans, by computation.
-- A half-open range s..e is the span from s up to e, an inclusive one s..=e the span from s up to e + 1.
use Prim.Native.Nat.{ℕ, zero, suc, ◌+◌, ◌-◌, ◌^◌, ◌≤◌}
use native.Mathlib.Omega.{arith}
use mathlib.Core.Path.{◌≡◌, refl}
use mathlib.Core.List.{List, [], ◌∷◌}
use mathlib.Core.Option.{some}
use Rattle.span.specs.Span.{Span, span, Ordered, Separate, inside, keep, before, after, joins, push, joined, given, inserted, removed, history}
use Rattle.span.specs.Labels.{relabelled}
use Rattle.span.specs.Operations.{puts, cuts, uncovered, laid_over, within, common_parts, common, chosen, spans_overlap, merged, absorb, united, span_total}
use Rattle.span.proofs.Local.{given_local}

-- n spans of one instant each, with label 1, from b on, an instant free after each
unfoldable pub comb : ℕ → ℕ → List Span
comb zero b = []
comb (suc n) b = span b (b + 1) 1 ∷ comb n (b + 2)

-- `unfolding all` opens every definition that a case computes with
unfoldable of_edits : Unit {0}
unfolding inside keep before after joins push joined given history
of_edits = tt

unfoldable all : Unit {0}
unfolding of_edits puts cuts uncovered laid_over within common_parts common relabelled chosen spans_overlap merged absorb united span_total comb
all = tt

insert_joins : inserted 5 8 1 (span 0 5 1 ∷ []) ≡ span 0 8 1 ∷ []
unfolding all
insert_joins = refl

insert_other : inserted 5 8 2 (span 0 5 1 ∷ []) ≡ span 0 5 1 ∷ span 5 8 2 ∷ []
unfolding all
insert_other = refl

insert_inside : inserted 2 4 2 (span 0 8 1 ∷ []) ≡ span 0 2 1 ∷ span 2 4 2 ∷ span 4 8 1 ∷ []
unfolding all
insert_inside = refl

-- a stored range starts where the new one starts while another ends there
insert_left : inserted 2 3 1 (span 0 2 1 ∷ span 2 4 2 ∷ []) ≡ span 0 3 1 ∷ span 3 4 2 ∷ []
unfolding all
insert_left = refl

remove_inside : removed 3 6 (span 0 8 1 ∷ []) ≡ span 0 3 1 ∷ span 6 8 1 ∷ []
unfolding all
remove_inside = refl

common_first : common (span 0 5 0 ∷ []) (span 0 3 0 ∷ []) ≡ span 0 3 0 ∷ []
unfolding all
common_first = refl

common_second : common (span 0 3 0 ∷ []) (span 0 5 0 ∷ []) ≡ span 0 3 0 ∷ []
unfolding all
common_second = refl

union_touching : united (span 0 3 0 ∷ []) (span 3 5 0 ∷ []) ≡ span 0 3 0 ∷ span 3 5 0 ∷ []
unfolding all
union_touching = refl

union_overlapping : united (span 0 3 0 ∷ []) (span 2 5 0 ∷ []) ≡ span 0 5 0 ∷ []
unfolding all
union_overlapping = refl

-- W-219
union_maximal : laid_over (span 0 3 0 ∷ []) (span 3 5 0 ∷ []) ≡ span 0 5 0 ∷ []
unfolding all
union_maximal = refl

gaps_between : uncovered 1 9 (span 0 2 1 ∷ span 2 3 2 ∷ span 5 8 1 ∷ []) ≡ span 3 5 0 ∷ span 8 9 0 ∷ []
unfolding all
gaps_between = refl

inclusive_joins : inserted 4 7 7 (span 1 4 7 ∷ []) ≡ span 1 7 7 ∷ []
unfolding all
inclusive_joins = refl

inclusive_single : inserted 5 6 1 [] ≡ span 5 6 1 ∷ []
unfolding all
inclusive_single = refl

-- the greatest key has the rank 2 ^ 64 - 1
inclusive_greatest : inserted (2 ^ 64 - 1) (2 ^ 64) 7 (span 5 (2 ^ 64 - 1) 7 ∷ []) ≡ span 5 (2 ^ 64) 7 ∷ []
unfolding all
inclusive_greatest = refl

inclusive_all : span_total (inserted 0 (2 ^ 64) 0 []) ≡ 2 ^ 64
unfolding all
inclusive_all = refl

-- seconds of a status: off duty over the November day, then driving
report_driving : span_total (chosen 3 (inserted 1730628000 1730653200 3 (inserted 1730606400 1730696400 1 []))) ≡ 25200
unfolding all
report_driving = refl

report_off : span_total (chosen 1 (inserted 1730628000 1730653200 3 (inserted 1730606400 1730696400 1 []))) ≡ 64800
unfolding all
report_off = refl

-- Full, at any size: a range that joins two leaves one range fewer. `outcomes` has the case of as many ranges as there are places
ordered_comb : (n b c : ℕ) → c ≤ b → Ordered c (comb n b)
unfolding comb
ordered_comb zero b c h = tt
ordered_comb (suc n) b c h = (h, omega arith, ordered_comb n (b + 2) (b + 1) (omega arith))

separate_comb : (n b : ℕ) → Separate (comb n b)
unfolding comb
separate_comb zero b = tt
separate_comb (suc zero) b = (tt, tt)
separate_comb (suc (suc n)) b = (omega arith, separate_comb (suc n) (b + 2))

full_fewer : (n : ℕ) → span 0 3 1 ∷ comb n 4 ≡ inserted 1 2 1 (comb (suc (suc n)) 0)
unfolding all
full_fewer n = given_local 1 2 (some 1) [] (span 0 1 1 ∷ span 2 3 1 ∷ []) (span 0 3 1 ∷ []) (comb n 4)
    (omega arith) tt (ordered_comb n 4 3 (omega arith)) (record { ordered = ordered_comb (suc (suc n)) 0 0 (omega arith); separate = separate_comb (suc (suc n)) 0 }) refl
