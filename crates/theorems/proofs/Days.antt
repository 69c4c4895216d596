-- THE DAY: how long the days of `log_day` are, that they meet, and that the hours of the exported report add up to the day's length.
use Prim.Native.Nat.{ℕ, ◌+◌, ◌-◌, ◌^◌, ◌<◌}
use native.Mathlib.Omega.{arith}
use mathlib.Core.Path.{◌≡◌, refl, sym, ap, subst, ◌∙◌}
use mathlib.Core.Bool.{Bool, true, false, cond}
use lib.Dec.{lt→ltb}
use lib.IntN.{ℤ, pos}
use Rattle.std.specs.Prelude.{Result, Ok, Err}
use Rattle.answers.specs.Answers.{done}
use Rattle.answers.specs.declared.Refusal.{Refusal}
use Rattle.answers.specs.Refusals.{number}
use Rattle.answers.specs.declared.Refusal.TheVariants.{NotFormed, BadStatus}
use Rattle.key.specs.Rank.{rank}
use Rattle.key.specs.Range.{half_open}
use Rattle.key.proofs.Laws.{rank_pos}
use Rattle.outcomes.specs.Stored.{ranges}
use Rattle.outcomes.specs.declared.Stored.{Stored}
use Rattle.outcomes.specs.Outcomes.{formed}
use Rattle.duty.specs.Duty.{strange, totals_of, tally_sound}
use Rattle.duty.specs.declared.Totals.{Totals}
use Rattle.calendar.specs.Calendar.{date, next_date}
use Rattle.log_day.specs.Days.{bounds, day_of, day_in_c}
use Rattle.log_day.specs.Promises.{LogDayPromise}
use Rattle.key.specs.declared.Bounds.{Bounds}
use Rattle.log_day.specs.declared.LogDay.{LogDay}
use Rattle.log_day.proofs.Spans.{Length, refused_is, meet}
use Rattle.log_day.proofs.Spans as Spans
use Rattle.report.specs.Report.{Reported, day_totals, with_keys, day_report_sound, day_report, reported_in_c}
use Rattle.report.specs.declared.DayReport.{DayReport}
use Rattle.report.specs.declared.DayTotals.{DayTotals}
use Rattle.report.proofs.Laws.{told, report_sum}
use Rattle.map.specs.declared.RangeMap.{RangeMap}
use Rattle.map.specs.Map.{held}
use Rattle.map_report.specs.Promises.{RangeMapDayReport, RangeMapDayReportUnchecked}

-- a report with its day and seconds
record Totalled (x : Reported) : Type 0 where
  totals : DayTotals
  is : x ≡ Ok totals

-- a report whose number is 0 is one
module _ (m : Stored) (z y mo d : ℕ) where
  of_tally : (s e : ℤ) (t : Bool) (u : Totals) → (reported_in_c (with_keys s e (cond t (Err BadStatus) (Ok u)))).answer ≡ 0
      → Totalled (with_keys s e (cond t (Err BadStatus) (Ok u)))
  of_tally s e true u h = absurd (omega arith)
  of_tally s e false u h = record { totals = day_totals s e u; is = refl }

  of_day : (x : Result Bounds Refusal) → day_of z y mo d ≡ x → (reported_in_c (day_report_sound m x)).answer ≡ 0 → Totalled (day_report_sound m x)
  unfolding tally_sound
  of_day (Ok b) q h = of_tally b.start b.end (strange (rank b.start) (rank b.end) (ranges half_open m)) (totals_of (rank b.start) (rank b.end) (ranges half_open m)) h
  of_day (Err why) q h = absurd (omega (arith, ap number (refused_is z y mo d q), h))

  of_map_lem : (t : Bool) → (reported_in_c (cond t (day_report_sound m (day_of z y mo d)) (Err NotFormed))).answer ≡ 0
      → Totalled (cond t (day_report_sound m (day_of z y mo d)) (Err NotFormed))
  of_map_lem true h = of_day (day_of z y mo d) refl h
  of_map_lem false h = absurd (omega arith)

  totalled : (reported_in_c (day_report m z y mo d)).answer ≡ 0 → Totalled (day_report m z y mo d)
  unfolding day_report
  totalled h = of_map_lem (formed half_open m) h

-- THE LENGTH OF A DAY, end less start: 82,800, 86,400 or 90,000 seconds, and which when
pub record DayLength (z y mo d : ℕ) (start end : ℤ) : Type 0 where
  pub from : ℕ
  pub to : ℕ
  pub start_is : start ≡ pos from
  pub end_is : end ≡ pos to
  pub ordered : from < to
  pub below : to < 2 ^ 40
  pub length_is : Length z (date y mo d) (to - from)

day_length : (z y mo d : ℕ) {s e : ℤ} → day_of z y mo d ≡ Ok (bounds s e) → DayLength z y mo d s e
day_length z y mo d q =
    let k = Spans.held z y mo d q in
    record { from = k.from; to = k.to; start_is = k.start_is; end_is = k.end_is; ordered = k.ordered; below = k.below; length_is = k.length_is }

-- what `log_day` tells with answer 0 is the date's day
pub log_day_is : (z y mo d : ℕ) (day : LogDay) → LogDayPromise z y mo d day → day.answer ≡ done → day_of z y mo d ≡ Ok (bounds day.start day.end)
log_day_is z y mo d day p h = go (day_of z y mo d) refl p
  where
    go : (x : Result Bounds Refusal) → day_of z y mo d ≡ x → day ≡ day_in_c x → day_of z y mo d ≡ Ok (bounds day.start day.end)
    go (Ok b) q p = q ∙ sym (ap (λ (t : LogDay). Ok (bounds t.start t.end)) p)
    go (Err why) q p = absurd (omega (arith, ap number (refused_is z y mo d q), h, ap (λ (t : LogDay). t.answer) p))

-- so it is that long
pub log_day_length : (z y mo d : ℕ) (day : LogDay) → LogDayPromise z y mo d day → day.answer ≡ done → DayLength z y mo d day.start day.end
log_day_length z y mo d day p h = day_length z y mo d (log_day_is z y mo d day p h)

-- and days meet: the next date's starts where this one ends
pub log_days_meet : (z y mo d : ℕ) (day after : LogDay) → let next = next_date (date y mo d) in
    LogDayPromise z y mo d day → day.answer ≡ done → LogDayPromise z next.year next.month next.day after → after.answer ≡ done
    → day.end ≡ after.start
log_days_meet z y mo d day after p h q i =
    let next = next_date (date y mo d) in
    meet z y mo d (log_day_is z y mo d day p h) (log_day_is z next.year next.month next.day after q i)

-- THE HOURS ADD UP: the seconds of the four statuses and the unrecorded ones are the day's length
pub record AddsUp (z y mo d : ℕ) (r : DayReport) : Type 0 where
  pub day : DayLength z y mo d r.start r.end
  pub sum : r.off_duty + r.sleeper_berth + r.driving + r.on_duty + r.unrecorded ≡ day.to - day.from

-- the same in ranks
abbrev Sums : DayReport → Type 0
Sums r = r.off_duty + r.sleeper_berth + r.driving + r.on_duty + r.unrecorded ≡ rank r.end - rank r.start

module _ (m : RangeMap) (z y mo d : ℕ) (r : DayReport) (q : RangeMapDayReport m z y mo d r) (h : r.answer ≡ done) where
  seconds : Totalled (day_report (held m) z y mo d)
  seconds = totalled (held m) z y mo d (ap (λ (x : DayReport). x.answer) (sym q) ∙ h)

  as_told : r ≡ reported_in_c (Ok seconds.totals)
  as_told = q ∙ ap reported_in_c seconds.is

  -- the day of the report is the date's
  day_is : day_of z y mo d ≡ Ok (bounds r.start r.end)
  day_is =
      (told (held m) z y mo d seconds.is).day
      ∙ sym (ap (λ (x : DayReport). Ok (bounds x.start x.end)) as_told)

  -- THE SUM of an accepted day, and its length
  pub day_adds_up : AddsUp z y mo d r
  day_adds_up =
      let t = seconds.totals in
      let k : DayLength z y mo d r.start r.end = day_length z y mo d day_is in
      let a : rank r.start ≡ 2 ^ 63 + k.from = ap rank k.start_is ∙ rank_pos k.from (lt→ltb k.from (2 ^ 63) (omega arith)) in
      let b : rank r.end ≡ 2 ^ 63 + k.to = ap rank k.end_is ∙ rank_pos k.to (lt→ltb k.to (2 ^ 63) (omega arith)) in
      let here : Sums r = subst Sums (sym as_told) (report_sum (held m) z y mo d t.day.start t.day.end t.totals seconds.is) in
      record { day = k; sum = omega (arith, here, a, b) }

  -- the report's day is what `log_day` answers
  pub day_is_log_day : (t : LogDay) → LogDayPromise z y mo d t → (t.answer ≡ done) × (t.start ≡ r.start) × (t.end ≡ r.end)
  day_is_log_day t p =
      let is : t ≡ day_in_c (Ok (bounds r.start r.end)) = p ∙ ap day_in_c day_is in
      (ap (λ (x : LogDay). x.answer) is, ap (λ (x : LogDay). x.start) is, ap (λ (x : LogDay). x.end) is)

-- DAYS MEET: the report of the next date starts where this one ends, whatever maps they are of
pub days_meet : (m n : RangeMap) (z y mo d : ℕ) (r t : DayReport) → let next = next_date (date y mo d) in
    RangeMapDayReport m z y mo d r → r.answer ≡ done → RangeMapDayReport n z next.year next.month next.day t → t.answer ≡ done → r.end ≡ t.start
days_meet m n z y mo d r t q h p i =
    let next = next_date (date y mo d) in
    meet z y mo d (day_is m z y mo d r q h) (day_is n z next.year next.month next.day t p i)

-- THE UNCHECKED DOOR gives the same report of a well-formed map, so all this holds of it too
pub unchecked_report : (m : RangeMap) (z y mo d : ℕ) (r : DayReport) → formed half_open (held m) ≡ true
    → RangeMapDayReportUnchecked m z y mo d r → RangeMapDayReport m z y mo d r
unfolding day_report
unchecked_report m z y mo d r well q = rw well q
