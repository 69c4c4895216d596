-- A DAY THAT WAS REPORTED can be drawn, and it has 92, 96 or 100 quarters.
use Prim.Native.Nat.{ℕ, ◌+◌, ◌-◌, ◌*◌, ◌^◌}
use native.Mathlib.Omega.{arith}
use mathlib.Core.Path.{◌≡◌, sym, ap, ◌∙◌}
use mathlib.Core.Logic.{◌⊎◌, inl, inr}
use lib.Dec.{lt→ltb}
use lib.IntN.{ℤ}
use Rattle.key.specs.Rank.{rank}
use Rattle.key.specs.Range.{half_open}
use Rattle.key.proofs.Laws.{rank_pos}
use Rattle.outcomes.specs.Stored.{Sound}
use Rattle.outcomes.specs.declared.Stored.{Stored}
use Rattle.duty.specs.declared.Totals.{Totals}
use Rattle.calendar.specs.declared.Date.{Date}
use Rattle.calendar.specs.Calendar.{date}
use Rattle.log_day.specs.Days.{bounds, day_of}
use Rattle.std.specs.Prelude.{Ok}
use Rattle.log_day.proofs.Spans.{Length, held}
use Rattle.report.specs.Report.{day_totals, day_report}
use Rattle.report.proofs.Returns.{day_window}
use Rattle.report.proofs.Laws.{told}
use Rattle.graph_text.specs.Grid.{quarters_in, Drawable}

-- what a grid asks of its map and day, a report has shown
pub reported_day : (m : Stored) (z y mo d : ℕ) {s e : ℤ} {t : Totals} → Sound half_open m → day_report m z y mo d ≡ Ok (day_totals s e t) → Drawable m s e
reported_day m z y mo d f q =
    let r = told m z y mo d q in
    let w = day_window z y mo d r.day in
    record { sound = f; real = w.real; short = w.at_most; calm = r.calm }

-- THE COLUMNS of a day are its seconds, whole: 92 quarters exactly where it has 82,800 seconds, 100 where it has 90,000, and else 96
pub record DayColumns (z : ℕ) (d : Date) (s e : ℤ) : Type 0 where
  pub whole : 900 * quarters_in s e ≡ rank e - rank s
  pub kind : Length z d (900 * quarters_in s e)

pub day_columns : (z y m d : ℕ) {s e : ℤ} → day_of z y m d ≡ Ok (bounds s e) → DayColumns z (date y m d) s e
day_columns z y m d {s} {e} q =
    let h = held z y m d q in
    let a : rank s ≡ 2 ^ 63 + h.from = ap rank h.start_is ∙ rank_pos h.from (lt→ltb h.from (2 ^ 63) (omega arith)) in
    let b : rank e ≡ 2 ^ 63 + h.to = ap rank h.end_is ∙ rank_pos h.to (lt→ltb h.to (2 ^ 63) (omega arith)) in
    let l : h.to - h.from ≡ rank e - rank s = omega (arith, a, b) in
    let w : 900 * quarters_in s e ≡ rank e - rank s = whole h.length_is l in
    record { whole = w; kind = rw (l ∙ sym w) at h.length_is }
  where
    whole : {n : ℕ} → Length z (date y m d) n → n ≡ rank e - rank s → 900 * quarters_in s e ≡ rank e - rank s
    whole (Length.short p c i) l = omega arith
    whole (Length.long p c i) l = omega arith
    whole (Length.plain p c i) l = omega arith

-- so a line has 92, 96 or 100 columns
pub three_widths : (z y m d : ℕ) {s e : ℤ} → day_of z y m d ≡ Ok (bounds s e) → (quarters_in s e ≡ 92) ⊎ ((quarters_in s e ≡ 96) ⊎ (quarters_in s e ≡ 100))
three_widths z y m d {s} {e} q = one_of (day_columns z y m d q).kind
  where
    one_of : Length z (date y m d) (900 * quarters_in s e) → (quarters_in s e ≡ 92) ⊎ ((quarters_in s e ≡ 96) ⊎ (quarters_in s e ≡ 100))
    one_of (Length.short p c i) = inl (omega arith)
    one_of (Length.plain p c i) = inr (inl (omega arith))
    one_of (Length.long p c i) = inr (inr (omega arith))
