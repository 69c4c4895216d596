-- A DAY'S REPORT IS KEPT by all that changes nothing in the day: by edits outside it, and by any call, bulk insert and read too, that leaves each of its keys
-- what it held.
use Prim.Native.Nat.{ℕ, ◌≤◌, ◌<◌}
use native.Mathlib.Omega.{arith}
use mathlib.Core.Path.{◌≡◌, sym, ap, ◌∙◌}
use mathlib.Core.List.{List}
use mathlib.Core.Option.{some, none}
use lib.IntN.{ℤ}
use mir.Syntax.{w64}
use mir.Val.{of_z}
use mir.Val.{SFits}
use Rattle.std.specs.Prelude.{Ok}
use Rattle.answers.specs.Answers.{done}
use Rattle.span.specs.Span.{at}
use Rattle.key.specs.Rank.{rank, key_at, keys}
use Rattle.key.specs.Range.{half_open}
use Rattle.key.proofs.Laws.{rank_below, key_fits, rank_key}
use Rattle.outcomes.specs.Stored.{ranges}
use Rattle.outcomes.specs.declared.Stored.{Stored}
use Rattle.outcomes.specs.Outcomes.{Edited}
use Rattle.duty.specs.Duty.{tally_sound}
use Rattle.duty.proofs.Sums.{same_totals, same_strange}
use Rattle.log_day.specs.Days.{bounds, day_of}
use Rattle.log_day.specs.Promises.{LogDayPromise}
use Rattle.log_day.specs.declared.LogDay.{LogDay}
use Rattle.report.specs.Report.{day_report, reported_in_c}
use Rattle.report.specs.declared.DayReport.{DayReport}
use Rattle.report.proofs.Returns.{day_window}
use Rattle.report.proofs.Outside.{Off, edit_outside}
use Rattle.map.specs.declared.RangeMap.{RangeMap}
use Rattle.map.specs.Map.{held}
use Rattle.map.specs.Promises.{RangeMapInsert, RangeMapRemove}
use Rattle.map_report.specs.Promises.{RangeMapDayReport}
use Rattle.one_map.specs.Events.{Proper, value_at, left_at}
use Rattle.one_map.proofs.Known.{proper_formed, proper_tidy, value_at_lem}
use Rattle.theorems.specs.Calls.{Call, call_effect, last_given}
use Rattle.theorems.specs.Structs.{RangeMapCall, RangeMapAfter}
use Rattle.theorems.proofs.Days.{log_day_is}
use Rattle.theorems.proofs.Histories.{range_map_step, range_map_proper, range_map_holds}

-- a key of a day, as `log_day` tells its start and end
abbrev pub InDay : LogDay → ℤ → Type 0
InDay day k = SFits w64 k × (rank day.start ≤ rank k) × (rank k < rank day.end)

module _ (z y mo d : ℕ) (day : LogDay) (told : LogDayPromise z y mo d day) (is-day : day.answer ≡ done) where
  abbrev s : ℤ
  s = day.start

  abbrev e : ℤ
  e = day.end

  span : day_of z y mo d ≡ Ok (bounds s e)
  span = log_day_is z y mo d day told is-day

  -- two well-formed maps that hold the same at every key of the day have the same report
  same_report : {a b : Stored} → Proper half_open a → Proper half_open b → ((k : ℤ) → InDay day k → value_at half_open a k ≡ value_at half_open b k)
      → day_report a z y mo d ≡ day_report b z y mo d
  unfolding day_report tally_sound
  same_report {a} {b} p q agree =
      let real = (day_window z y mo d span).real in
      let alike : (k : ℕ) → rank s ≤ k → k < rank e → at (ranges half_open a) k ≡ at (ranges half_open b) k =
      λ k from to.
      let below : k < keys = omega (arith, rank_below (of_z w64 e)) in
      let is : rank (key_at k) ≡ k = rank_key k below in
      ap (at (ranges half_open a)) (sym is) ∙ sym (value_at_lem p (key_at k)) ∙ agree (key_at k) (key_fits k below, omega arith, omega arith)
      ∙ value_at_lem q (key_at k) ∙ ap (at (ranges half_open b)) is in
      let o = (proper_tidy p).ordered in
      let u = (proper_tidy q).ordered in
      rw (
        proper_formed p,
        proper_formed q,
        span,
        same_strange (rank s) (rank e) (ranges half_open a) (ranges half_open b) real o u alike,
        same_totals (rank s) (rank e) (ranges half_open a) (ranges half_open b) real o u alike,
      )

  -- HISTORIES: calls that gave each key of the day the same last value have the same report of the day
  pub same_day : (cs ds : List Call) (n o : RangeMap) (r t : DayReport) → RangeMapAfter cs n → RangeMapAfter ds o
      → ((k : ℤ) → InDay day k → last_given half_open call_effect cs k none ≡ last_given half_open call_effect ds k none)
      → RangeMapDayReport n z y mo d r → RangeMapDayReport o z y mo d t → r ≡ t
  same_day cs ds n o r t left left₂ agree a b =
      a ∙ ap reported_in_c (same_report (range_map_proper cs n left) (range_map_proper ds o left₂)
      (λ k in_day. range_map_holds cs n k left ∙ agree k in_day ∙ sym (range_map_holds ds o k left₂))) ∙ sym b

  -- ANY CALL that leaves each key of the day what it held leaves the report as it was: insert, remove, bulk insert, clear and read, accepted or refused
  pub call_outside : (c : Call) (m m' : RangeMap) (r t : DayReport) → Proper half_open (held m) → RangeMapCall c m m'
      → ((k : ℤ) → InDay day k → left_at half_open (call_effect c) k (value_at half_open (held m) k) ≡ value_at half_open (held m) k)
      → RangeMapDayReport m z y mo d r → RangeMapDayReport m' z y mo d t → t ≡ r
  call_outside c m m' r t p q keeps a b =
      let (p', step) = range_map_step c m m' p q in
      b ∙ ap reported_in_c (same_report p' p (λ k in_day. step.holds k ∙ keeps k in_day)) ∙ sym a

  -- INSERT outside the day, of any map
  pub insert_outside : (m m' : RangeMap) (a b : ℤ) (v n : ℕ) (r t : DayReport) → RangeMapInsert m m' a b v n → Off a b day.start day.end
      → RangeMapDayReport m z y mo d r → RangeMapDayReport m' z y mo d t → t ≡ r
  insert_outside m m' a b v n r t q off was now =
      now
      ∙ ap (λ (o : Edited). reported_in_c (day_report o.left z y mo d)) q ∙ ap reported_in_c (edit_outside (held m) z y mo d span a b (some v) off) ∙ sym was

  -- REMOVE outside the day, of any map
  pub remove_outside : (m m' : RangeMap) (a b : ℤ) (n : ℕ) (r t : DayReport) → RangeMapRemove m m' a b n → Off a b day.start day.end
      → RangeMapDayReport m z y mo d r → RangeMapDayReport m' z y mo d t → t ≡ r
  remove_outside m m' a b n r t q off was now =
      now
      ∙ ap (λ (o : Edited). reported_in_c (day_report o.left z y mo d)) q ∙ ap reported_in_c (edit_outside (held m) z y mo d span a b none off) ∙ sym was
