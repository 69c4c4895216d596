-- ON ANY NUMBER BUT 0 every other field is 0 and all lent memory is as it was; and places past the count are as they were. One law for each shape of promise:
-- every promise of that shape is its hypothesis.
use Prim.Native.Nat.{ℕ, ◌≤◌}
use mathlib.Core.Path.{◌≡◌, ap, subst}
use mathlib.Core.Bool.{false}
use mathlib.Core.List.{List}
use lib.ListN.{get_or}
use lib.IntN.{ℤ, pos}
use Rattle.std.specs.Prelude.{Result, Ok, Err}
use Rattle.answers.specs.Answers.{done}
use Rattle.answers.specs.declared.Refusal.{Refusal}
use Rattle.outcomes.specs.Numbers.{asked_in_c, counted_in_c, found_in_c, part_in_c, compared_in_c, totalled_in_c}
use Rattle.outcomes.specs.Outcomes.{Written, Listed}
use Rattle.outcomes.specs.Answered.{Asked, Counted, Found, Located, Compared, Totalled}
use Rattle.outcomes.specs.declared.Told.{Told}
use Rattle.outcomes.specs.declared.Count.{Count}
use Rattle.outcomes.specs.declared.Range.{Range}
use Rattle.outcomes.specs.declared.Stretch.{Stretch}
use Rattle.outcomes.specs.declared.Order.{Order}
use Rattle.outcomes.specs.declared.Total.{Total}
use Rattle.byte_form.specs.Form.{Output, Wrote}
use Rattle.log_day.specs.Days.{day_in_c}
use Rattle.key.specs.declared.Bounds.{Bounds}
use Rattle.log_day.specs.declared.LogDay.{LogDay}
use Rattle.report.specs.Report.{Reported, reported_in_c}
use Rattle.report.specs.declared.DayReport.{DayReport}
use Rattle.one_map.proofs.Refusals.{Kept, BytesKept, told_zero, count_zero, range_zero, stretch_zero, order_zero, total_zero}

-- a refusal: any number but 0
abbrev pub Refuses : ℕ → Type 0
Refuses n = n ≡ done → ⊥

-- yes or no
pub told_refused : (a : Asked) (r : Told) → r ≡ asked_in_c a → Refuses r.answer → r.yes ≡ false
told_refused a r q n = rw q (told_zero a (subst (λ (x : Told). Refuses x.answer) q n))

-- a count
pub count_refused : (a : Counted) (r : Count) → r ≡ counted_in_c a → Refuses r.answer → r.count ≡ 0
count_refused a r q n = rw q (count_zero a (subst (λ (x : Count). Refuses x.answer) q n))

-- a range and its value
pub range_refused : (a : Found) (r : Range) → r ≡ found_in_c a → Refuses r.answer → (r.start ≡ pos 0) × (r.end ≡ pos 0) × (r.value ≡ 0)
range_refused a r q n = rw q (range_zero a (subst (λ (x : Range). Refuses x.answer) q n))

-- a part of the places
pub stretch_refused : (a : Located) (r : Stretch) → r ≡ part_in_c a → Refuses r.answer → (r.place ≡ 0) × (r.count ≡ 0)
stretch_refused a r q n = rw q (stretch_zero a (subst (λ (x : Stretch). Refuses x.answer) q n))

-- an order
pub order_refused : (a : Compared) (r : Order) → r ≡ compared_in_c a → Refuses r.answer → r.order ≡ pos 0
order_refused a r q n = rw q (order_zero a (subst (λ (x : Order). Refuses x.answer) q n))

-- a total
pub total_refused : (a : Totalled) (r : Total) → r ≡ totalled_in_c a → Refuses r.answer → r.total ≡ 0
total_refused a r q n = rw q (total_zero a (subst (λ (x : Total). Refuses x.answer) q n))

-- a day
pub day_refused : (a : Result Bounds Refusal) (r : LogDay) → r ≡ day_in_c a → Refuses r.answer → (r.start ≡ pos 0) × (r.end ≡ pos 0)
day_refused (Ok day) r q n = absurd (n (ap (λ (x : LogDay). x.answer) q))
day_refused (Err why) r q n = (ap (λ (x : LogDay). x.start) q, ap (λ (x : LogDay). x.end) q)

-- a report: all of it is 0 but its number
pub report_refused : (a : Reported) (r : DayReport) → r ≡ reported_in_c a → Refuses r.answer → (why : Refusal) × (r ≡ reported_in_c (Err why))
report_refused (Ok x) r q n = absurd (n (ap (λ (y : DayReport). y.answer) q))
report_refused (Err why) r q n = (why, q)

-- TWO LENT LISTS, of gaps, intersection, union and a query: refused, both are as they were and the count is 0; and places past the count always are
pub record ListsKept (r : Count) (starts starts' ends ends' : List ℤ) : Type 0 where
  pub refused : Refuses r.answer → (r.count ≡ 0) × (starts' ≡ starts) × (ends' ≡ ends)
  pub past : (k : ℕ) → r.count ≤ k → (get_or starts' k (pos 0) ≡ get_or starts k (pos 0)) × (get_or ends' k (pos 0) ≡ get_or ends k (pos 0))

-- where the definition keeps them, the promise does
pub lists_kept : (w : Written) (r : Count) (starts starts' ends ends' : List ℤ) → Kept w starts ends → Listed r starts' ends' w
    → ListsKept r starts starts' ends ends'
lists_kept w r starts starts' ends ends' kept q =
    rw (q.number, q.starts_are, q.ends_are) (record {
      refused = λ n. (count_zero w.answer n, (kept.refused n).0, (kept.refused n).1);
      past = kept.past;
    })

-- LENT BYTES, of the writer: the same
pub record OutputKept (r : Count) (out out' : List ℕ) : Type 0 where
  pub refused : Refuses r.answer → (r.count ≡ 0) × (out' ≡ out)
  pub past : (k : ℕ) → r.count ≤ k → get_or out' k 0 ≡ get_or out k 0

-- where the definition keeps them, the promise does
pub output_kept : (w : Output) (r : Count) (out out' : List ℕ) → BytesKept w out → Wrote r out' w → OutputKept r out out'
output_kept w r out out' kept q =
    rw (q.number, q.out_is) (record { refused = λ n. (count_zero w.answer n, kept.refused n); past = kept.past })
