-- WHAT A REPORT SAYS: each total's seconds are the number of instants of the day at which the map holds a status that counts to it;
-- the four totals and unrecorded time sum to the day's length; the whole day is unrecorded exactly where the map holds nothing in it;
-- and each hour is the double nearest its seconds / 3600.
use Prim.Native.Nat.{ℕ, ◌+◌, ◌-◌, ◌≤◌, ◌<◌}
use native.Mathlib.Omega.{arith}
use mathlib.Core.Path.{◌≡◌, refl, sym, ap, ◌∙◌}
use mathlib.Core.Bool.{Bool, true, false, cond}
use mathlib.Core.List.{List}
use mathlib.Core.Option.{some, none}
use lib.IntN.{ℤ}
use Rattle.std.specs.Prelude.{Result, Ok, Err}
use Rattle.answers.specs.declared.Refusal.{Refusal}
use Rattle.answers.specs.declared.Refusal.TheVariants.{NotFormed, BadDay, BadStatus}
use Rattle.span.specs.Span.{Span, inside, at, Ordered}
use Rattle.span.specs.Labels.{through, passed}
use Rattle.span.specs.Operations.{count, unless}
use Rattle.key.specs.Rank.{rank}
use Rattle.key.specs.Range.{half_open}
use Rattle.key.specs.declared.Bounds.{Bounds}
use Rattle.outcomes.specs.Stored.{places, ranges}
use Rattle.outcomes.specs.declared.Stored.{Stored}
use Rattle.outcomes.specs.Outcomes.{formed}
use Rattle.outcomes.proofs.Formed as Formed
use Rattle.hours.specs.Hours.{hours_of, Nearest}
use Rattle.hours.proofs.Near.{hours_nearest}
use Rattle.duty.specs.Duty.{is_off_duty, is_sleeper_berth, is_driving, is_on_duty, seconds_of, unrecorded_of, strange, totals_of, tally_sound}
use Rattle.duty.specs.declared.Totals.{Totals}
use Rattle.duty.proofs.Instants.{seconds_instants, unrecorded_instants}
use Rattle.duty.proofs.Sums.{duties_sum, unrecorded_free, free_unrecorded}
use Rattle.log_day.specs.Days.{bounds, day_of}
use Rattle.log_day.proofs.Spans.{refused_is}
use Rattle.report.specs.Report.{day_totals, with_keys, day_report_sound, day_report}
use Rattle.report.specs.declared.DayTotals.{DayTotals}
use Rattle.report.proofs.Returns.{Window, day_window}

-- a report that is no refusal: the map is well formed, the day is the date's, no strange status is in it, and its seconds are counted
pub record Told (m : Stored) (z y mo d : ℕ) (s e : ℤ) (t : Totals) : Type 0 where
  pub well : formed half_open m ≡ true
  pub day : day_of z y mo d ≡ Ok (bounds s e)
  pub calm : strange (rank s) (rank e) (ranges half_open m) ≡ false
  pub totals : t ≡ totals_of (rank s) (rank e) (ranges half_open m)

module _ (m : Stored) (z y mo d : ℕ) {s e : ℤ} {t : Totals} where
  of_tally : (b : Bool) (s' e' : ℤ) → formed half_open m ≡ true → day_of z y mo d ≡ Ok (bounds s' e') → strange (rank s') (rank e') (ranges half_open m) ≡ b
      → with_keys s' e' (cond b (Err BadStatus) (Ok (totals_of (rank s') (rank e') (ranges half_open m)))) ≡ Ok (day_totals s e t) → Told m z y mo d s e t
  of_tally true s' e' w h c q = cc
  of_tally false s' e' w h c q =
      let r : day_totals s' e' (totals_of (rank s') (rank e') (ranges half_open m)) ≡ day_totals s e t = cc in
      let a : s' ≡ s = ap (λ (x : DayTotals). x.day.start) r in
      let b : e' ≡ e = ap (λ (x : DayTotals). x.day.end) r in
      let u : totals_of (rank s') (rank e') (ranges half_open m) ≡ t = ap (λ (x : DayTotals). x.totals) r in
      record { well = w; day = rw (← a, ← b) h; calm = rw (← a, ← b) c; totals = sym (rw (a, b) at u) }

  of_day : (x : Result Bounds Refusal) → formed half_open m ≡ true → day_of z y mo d ≡ x → day_report_sound m x ≡ Ok (day_totals s e t) → Told m z y mo d s e t
  unfolding tally_sound
  of_day (Ok b) w h q = of_tally (strange (rank b.start) (rank b.end) (ranges half_open m)) b.start b.end w h refl q
  of_day (Err why) w h q = cc

  pub told : day_report m z y mo d ≡ Ok (day_totals s e t) → Told m z y mo d s e t
  unfolding day_report
  told q = go (formed half_open m) refl q
    where
      go : (b : Bool) → formed half_open m ≡ b → cond b (day_report_sound m (day_of z y mo d)) (Err NotFormed) ≡ Ok (day_totals s e t) → Told m z y mo d s e t
      go true w q = of_day (day_of z y mo d) w refl q
      go false w q = cc

-- THE ORDER OF REFUSALS
pub not_formed_lem : (m : Stored) (z y mo d : ℕ) → formed half_open m ≡ false → day_report m z y mo d ≡ Err NotFormed
unfolding day_report
not_formed_lem m z y mo d h = rw h

pub no_day_lem : (m : Stored) (z y mo d : ℕ) {why : Refusal} → formed half_open m ≡ true → day_of z y mo d ≡ Err why → day_report m z y mo d ≡ Err BadDay
unfolding day_report
no_day_lem m z y mo d h q = rw (h, q, refused_is z y mo d q)

pub strange_day : (m : Stored) (z y mo d : ℕ) (s e : ℤ) → formed half_open m ≡ true → day_of z y mo d ≡ Ok (bounds s e) → strange (rank s) (rank e) (ranges half_open m) ≡ true
    → day_report m z y mo d ≡ Err BadStatus
unfolding day_report tally_sound
strange_day m z y mo d s e h q c = rw (h, q, c)

-- WHAT IS IN IT
module _ (m : Stored) (z y mo d : ℕ) (s e : ℤ) (t : Totals) (q : day_report m z y mo d ≡ Ok (day_totals s e t)) where
  abbrev xs : List Span
  xs = ranges half_open m

  abbrev lo : ℕ
  lo = rank s

  abbrev hi : ℕ
  hi = rank e

  is : Told m z y mo d s e t
  is = told m z y mo d q

  in_day : Window s e
  in_day = day_window z y mo d is.day

  ordered : Ordered 0 xs
  ordered = (Formed.formed half_open places m is.well).tidy.ordered

  off_is : t.off_duty ≡ seconds_of is_off_duty lo hi xs
  unfolding totals_of
  off_is = ap (λ (u : Totals). u.off_duty) is.totals

  berth_is : t.sleeper_berth ≡ seconds_of is_sleeper_berth lo hi xs
  unfolding totals_of
  berth_is = ap (λ (u : Totals). u.sleeper_berth) is.totals

  driving_is : t.driving ≡ seconds_of is_driving lo hi xs
  unfolding totals_of
  driving_is = ap (λ (u : Totals). u.driving) is.totals

  on_is : t.on_duty ≡ seconds_of is_on_duty lo hi xs
  unfolding totals_of
  on_is = ap (λ (u : Totals). u.on_duty) is.totals

  unrecorded_is : t.unrecorded ≡ unrecorded_of lo hi xs
  unfolding totals_of
  unrecorded_is = ap (λ (u : Totals). u.unrecorded) is.totals

  -- the number of instants of the day at which a value is held that passes a test
  abbrev pub instants : (ℕ → Bool) → ℕ
  instants p = count (λ k. cond (inside lo hi k) (through (passed p) (at xs k)) none) hi

  -- EACH INSTANT of the day counts to what the map holds there
  pub record Counted : Type 0 where
    pub off : t.off_duty ≡ instants is_off_duty
    pub berth : t.sleeper_berth ≡ instants is_sleeper_berth
    pub drove : t.driving ≡ instants is_driving
    pub on : t.on_duty ≡ instants is_on_duty
    pub free : t.unrecorded ≡ count (λ k. unless (at xs k) (cond (inside lo hi k) (some 0) none)) hi

  pub report_instants : Counted
  report_instants = record {
    off = off_is ∙ seconds_instants is_off_duty lo hi xs ordered;
    berth = berth_is ∙ seconds_instants is_sleeper_berth lo hi xs ordered;
    drove = driving_is ∙ seconds_instants is_driving lo hi xs ordered;
    on = on_is ∙ seconds_instants is_on_duty lo hi xs ordered;
    free = unrecorded_is ∙ unrecorded_instants lo hi xs in_day.real ordered;
  }

  -- THE SUM: the four totals and unrecorded time are the day's length
  pub report_sum : t.off_duty + t.sleeper_berth + t.driving + t.on_duty + t.unrecorded ≡ hi - lo
  report_sum = omega (arith, off_is, berth_is, driving_is, on_is, unrecorded_is, duties_sum lo hi xs in_day.real ordered is.calm)

  -- ALL UNRECORDED exactly where the map holds nothing in the day
  pub all_unrecorded : t.unrecorded ≡ hi - lo → (k : ℕ) → lo ≤ k → k < hi → at xs k ≡ none
  all_unrecorded h = unrecorded_free lo hi xs in_day.real ordered (sym unrecorded_is ∙ h)

  pub nothing_held : ((k : ℕ) → lo ≤ k → k < hi → at xs k ≡ none) → t.unrecorded ≡ hi - lo
  nothing_held h = unrecorded_is ∙ free_unrecorded lo hi xs in_day.real ordered h

  -- THE HOURS are each the double nearest its seconds / 3600
  pub record Hours : Type 0 where
    pub off : Nearest (hours_of t.off_duty) t.off_duty 3600
    pub berth : Nearest (hours_of t.sleeper_berth) t.sleeper_berth 3600
    pub drove : Nearest (hours_of t.driving) t.driving 3600
    pub on : Nearest (hours_of t.on_duty) t.on_duty 3600
    pub free : Nearest (hours_of t.unrecorded) t.unrecorded 3600

  pub report_hours : Hours
  report_hours =
      let w = in_day in
      let sum = report_sum in
      record {
        off = hours_nearest t.off_duty (omega (arith, w.at_most));
        berth = hours_nearest t.sleeper_berth (omega (arith, w.at_most));
        drove = hours_nearest t.driving (omega (arith, w.at_most));
        on = hours_nearest t.on_duty (omega (arith, w.at_most));
        free = hours_nearest t.unrecorded (omega (arith, w.at_most));
      }
