-- What a report says: hours are the nearest ten-thousandths, and the sum is the length of the day.
use Prim.Native.Nat.{ℕ, ◌+◌, ◌-◌, ◌*◌, ◌/◌, ◌%◌, ◌<◌}
use native.Mathlib.Omega.{arith}
use mathlib.Core.Path.{◌≡◌, ap}
use lib.IntN.{ℤ}
use Rattle.key.specs.Rank.{rank}
use Rattle.outcomes.specs.declared.Stored.{Stored}
use Rattle.duty.specs.declared.Totals.{Totals}
use Rattle.std.specs.Prelude.{Ok}
use Rattle.report.specs.Report.{day_totals, day_report}
use Rattle.report.proofs.Laws.{report_sum}
use Rattle.report_text.specs.Rows.{sum_seconds}
use Rattle.report_text.specs.Times.{ten_thousandths}
use Rattle.report_text.specs.ReportText.{times_text}

-- t ten-thousandths of an hour are the nearest to n seconds: t and 25 n / 9 are less than a half apart
pub record Rounded (n t : ℕ) : Type 0 where
  pub above : 18 * t < 50 * n + 9
  pub below : 50 * n < 18 * t + 9

-- HOURS are shown as the nearest, and four digits hold what is behind the point
pub hours_rounded : (n : ℕ) → Rounded n (10000 * (n / 3600) + ten_thousandths (n % 3600))
unfolding ten_thousandths
hours_rounded n = record { above = omega arith; below = omega arith }

pub four_decimals : (n : ℕ) → ten_thousandths (n % 3600) < 10000
unfolding ten_thousandths
four_decimals n = omega arith

-- THE SUM that a day's report shows is the length that it shows
module _ (m : Stored) (z y mo d : ℕ) {s e : ℤ} {t : Totals} (q : day_report m z y mo d ≡ Ok (day_totals s e t)) where
  pub sum_is_length : sum_seconds t ≡ rank e - rank s
  unfolding sum_seconds
  sum_is_length = report_sum m z y mo d s e t q

  pub sum_as_length : times_text (sum_seconds t) ≡ times_text (rank e - rank s)
  sum_as_length = ap times_text sum_is_length
