-- THE ORDER OF REFUSALS of a query and of a day's report: of several reasons the first in document 01's order is answered, or 0 where none holds.
use Prim.Native.Nat.{ℕ, min}
use mathlib.Core.Path.{◌≡◌, refl, ap, ◌∙◌}
use mathlib.Core.Bool.{Bool, true, false, not, cond}
use mathlib.Core.List.{List, [], ◌∷◌}
use lib.Dec.{ltb}
use lib.ListN.{length}
use lib.IntN.{ℤ}
use Rattle.std.specs.Prelude.{Result, Ok, Err}
use Rattle.answers.specs.Answers.{empty_range, too_short, bad_query, bad_day, bad_status}
use Rattle.answers.specs.declared.Refusal.{Refusal}
use Rattle.answers.specs.Refusals.{number}
use Rattle.answers.specs.declared.Refusal.TheVariants.{BadQuery, BadStatus}
use Rattle.key.specs.Rank.{rank}
use Rattle.key.specs.Range.{half_open}
use Rattle.key.specs.declared.Bounds.{Bounds}
use Rattle.outcomes.specs.Stored.{ranges}
use Rattle.outcomes.specs.Outcomes.{not_written, formed, into_lists, yes_no}
use Rattle.outcomes.specs.declared.Count.{Count}
use Rattle.outcomes.specs.declared.Told.{Told}
use Rattle.one_map.proofs.Refusals.{Reason, refuse, first_number, unformed, both_pass, lets_pass, told_number, told_done, list_number, writing_order}
use Rattle.duty.specs.Duty.{strange, totals_of, tally_sound}
use Rattle.log_day.specs.Days.{day_of}
use Rattle.log_day.proofs.Spans.{refused_is}
use Rattle.report.specs.Report.{Reported, with_keys, day_report_sound, day_report, reported_in_c}
use Rattle.report.specs.declared.DayReport.{DayReport}
use Rattle.map.specs.declared.RangeMap.{RangeMap}
use Rattle.map.specs.Map.{held}
use Rattle.query_text.specs.Reader.{Read, got, bad, query_of}
use Rattle.query.specs.Answers.{by_query, result_of, true_at, query_ranges_sound, query_at_sound, query_ranges, query_at}
use Rattle.map_report.specs.Promises.{RangeMapDayReport}
use Rattle.map_query.specs.Promises.{RangeMapQuery, RangeMapQueryAt}

-- what a day's keys give, and else another
abbrev pub by_day : {A : Type 0} → Result Bounds Refusal → (ℤ → ℤ → A) → A → A
by_day (Ok day) f other = f day.start day.end
by_day (Err why) f other = other

-- the number of a report
abbrev report_number : Reported → ℕ
report_number x = (reported_in_c x).answer

-- 1: the window is empty or reversed
abbrev pub no_window : ℤ → ℤ → Reason
no_window s e = refuse (not (ltb (rank s) (rank e))) empty_range

-- 7: the bytes are no query
abbrev pub no_query : List ℕ → Reason
no_query bytes = refuse (by_query (query_of bytes) (λ q. false) true) bad_query

-- 3: the result of the query has more ranges than one of the lent lists has places
abbrev pub result_over : RangeMap → RangeMap → ℤ → ℤ → List ℕ → List ℤ → List ℤ → Reason
result_over a b s e bytes os oe =
    refuse (by_query (query_of bytes) (λ q. ltb (min (length os) (length oe)) (length (result_of (held a) (held b) s e q))) false) too_short

module _ (a b : RangeMap) (s e : ℤ) (bytes : List ℕ) where
  -- THE RANGES of a query: 4 of the first map, then 4 of the second, 1, 7, 3
  pub query_order : (os os' oe oe' : List ℤ) (r : Count) → RangeMapQuery a b s e bytes os os' oe oe' r
      → r.answer ≡ first_number (unformed half_open (held a) ∷ unformed half_open (held b) ∷ no_window s e ∷ no_query bytes ∷ result_over a b s e bytes os oe ∷ [])
  unfolding query_ranges query_ranges_sound
  query_order os os' oe oe' r q =
      ap (λ (x : Count). x.answer) q.number
      ∙ both_pass list_number (formed half_open (held a)) (formed half_open (held b)) refl
      (lets_pass list_number (ltb (rank s) (rank e)) refl (of_read (query_of bytes)))
    where
      of_read : (x : Read) → list_number (by_query x (λ q. into_lists half_open (result_of (held a) (held b) s e q) os oe) (not_written BadQuery os oe))
          ≡ cond (by_query x (λ q. false) true) bad_query
          (cond (by_query x (λ q. ltb (min (length os) (length oe)) (length (result_of (held a) (held b) s e q))) false) too_short 0)
      of_read (got q rest) = writing_order half_open (result_of (held a) (held b) s e q) os oe
      of_read bad = refl

  -- ONE INSTANT: 4 of the first map, then 4 of the second, 1, 7
  pub query_at_order : (k : ℤ) (r : Told) → RangeMapQueryAt a b s e bytes k r
      → r.answer ≡ first_number (unformed half_open (held a) ∷ unformed half_open (held b) ∷ no_window s e ∷ no_query bytes ∷ [])
  unfolding query_at query_at_sound
  query_at_order k r q =
      ap (λ (x : Told). x.answer) q
      ∙ both_pass told_number (formed half_open (held a)) (formed half_open (held b)) refl
      (lets_pass told_number (ltb (rank s) (rank e)) refl (of_read (query_of bytes)))
    where
      of_read : (x : Read) → told_number (by_query x (λ q. yes_no (true_at (held a) (held b) s e q k)) (Err BadQuery))
          ≡ cond (by_query x (λ q. false) true) bad_query 0
      of_read (got q rest) = told_done (true_at (held a) (held b) s e q k)
      of_read bad = refl

-- 8: the zone or the date is bad
abbrev pub no_day : ℕ → ℕ → ℕ → ℕ → Reason
no_day z y mo d = refuse (by_day (day_of z y mo d) (λ s e. false) true) bad_day

-- 10: a status outside 1 to 4 is in the day
abbrev pub strange_in : RangeMap → ℕ → ℕ → ℕ → ℕ → Reason
strange_in m z y mo d = refuse (by_day (day_of z y mo d) (λ s e. strange (rank s) (rank e) (ranges half_open (held m))) false) bad_status

-- A DAY'S REPORT: 4, 8, 10
pub report_order : (m : RangeMap) (z y mo d : ℕ) (r : DayReport) → RangeMapDayReport m z y mo d r
    → r.answer ≡ first_number (unformed half_open (held m) ∷ no_day z y mo d ∷ strange_in m z y mo d ∷ [])
unfolding day_report tally_sound
report_order m z y mo d r q =
    ap (λ (x : DayReport). x.answer) q ∙ lets_pass report_number (formed half_open (held m)) refl (of_day (day_of z y mo d) refl)
  where
    of_day : (x : Result Bounds Refusal) → day_of z y mo d ≡ x → report_number (day_report_sound (held m) x)
        ≡ cond (by_day x (λ s e. false) true) bad_day (cond (by_day x (λ s e. strange (rank s) (rank e) (ranges half_open (held m))) false) bad_status 0)
    of_day (Ok b) h = of_strange (strange (rank b.start) (rank b.end) (ranges half_open (held m)))
      where
        of_strange : (t : Bool)
            → report_number (with_keys b.start b.end (cond t (Err BadStatus) (Ok (totals_of (rank b.start) (rank b.end) (ranges half_open (held m))))))
            ≡ cond t bad_status 0
        of_strange true = refl
        of_strange false = refl
    of_day (Err why) h = ap number (refused_is z y mo d h)
