-- Statuses: which values they are, that each counts to one total, and that a total is the sum over the statuses that pass its test.
use Prim.Native.Nat.{ℕ, zero, suc, ◌+◌, ◌-◌, ◌≤◌, ◌<◌}
use native.Mathlib.Omega.{arith}
use native.Mathlib.Decide.{dec_lt}
use mathlib.Core.Path.{◌≡◌, refl, sym, ap, ◌∙◌}
use mathlib.Core.Bool.{Bool, true, false, ◌&&◌, cond}
use lib.Dec.{leb}
use mathlib.Core.List.{List, [], ◌∷◌}
use borrow.Author.Tests.{eq-eqb, ne_eqb, le-leb, lt-leb}
use Rattle.span.specs.Span.{Span}
use Rattle.span.specs.Labels.{relabelled, equals, those}
use Rattle.span.specs.Operations.{within, span_total}
use Rattle.span.proofs.Total.{total_those}
use Rattle.key.proofs.Answers.{never}
use Rattle.duty.specs.Duty.{is_off_duty, is_sleeper_berth, is_driving, is_on_duty, is_status, seconds_of, unrecorded_of, strange, totals_of, tally_sound}
use Rattle.duty.specs.InnerWalk.{table_length, sum_over}

-- `unfolding tests` opens the test of each total, and `unfolding of_duties` all that totals and answers are made of
unfoldable tests : Unit {0}
unfolding is_off_duty is_sleeper_berth is_driving is_on_duty is_status
tests = tt

unfoldable pub of_duties : Unit {0}
unfolding tests relabelled seconds_of unrecorded_of strange totals_of tally_sound
of_duties = tt

-- what lies past a table passes no test
pub record PassesNone (v : ℕ) : Type 0 where
  pub off : is_off_duty v ≡ false
  pub berth : is_sleeper_berth v ≡ false
  pub drives : is_driving v ≡ false
  pub on : is_on_duty v ≡ false

pub past_table : (v : ℕ) → table_length ≤ v → PassesNone v
unfolding tests
past_table v h = record { off = ne_eqb v 1 (omega arith); berth = ne_eqb v 2 (omega arith); drives = ne_eqb v 3 (omega arith); on = ne_eqb v 4 (omega arith) }

-- WHICH VALUES ARE STATUSES: those from 1 to 4
pub to_status : (v : ℕ) → 0 < v → v ≤ 4 → is_status v ≡ true
unfolding tests
to_status zero h i = absurd (omega arith)
to_status (suc zero) h i = refl
to_status (suc (suc zero)) h i = refl
to_status (suc (suc (suc zero))) h i = refl
to_status (suc (suc (suc (suc zero)))) h i = refl
to_status (suc (suc (suc (suc (suc v))))) h i = absurd (omega arith)

pub status_upto : (v : ℕ) → is_status v ≡ true → v ≤ 4
unfolding is_status
status_upto v e = elim (dec_lt 4 v) [
  | yes h ↦
      let n = past_table v h in
      never (rw (n.off, n.berth, n.drives, n.on) at e)
  | no h ↦ omega arith
]

pub status_from : (v : ℕ) → is_status v ≡ true → 0 < v
unfolding tests
status_from zero e = never e
status_from (suc v) e = omega arith

-- the test that the code makes
past_status : (v : ℕ) → 5 ≤ v → is_status v ≡ (leb 1 v && leb v 4)
unfolding is_status
past_status v h =
    let n = past_table v h in
    rw (n.off, n.berth, n.drives, n.on, le-leb 1 v (omega arith), lt-leb v 4 (omega arith))

pub status_of : (v : ℕ) → is_status v ≡ (leb 1 v && leb v 4)
unfolding tests
status_of zero = refl
status_of (suc zero) = refl
status_of (suc (suc zero)) = refl
status_of (suc (suc (suc zero))) = refl
status_of (suc (suc (suc (suc zero)))) = refl
status_of (suc (suc (suc (suc (suc v))))) = past_status (suc (suc (suc (suc (suc v))))) (omega arith)

-- A STATUS COUNTS TO ONE TOTAL
pub one_of_four : (v n : ℕ) → is_status v ≡ true → cond (is_off_duty v) n 0 + cond (is_sleeper_berth v) n 0 + cond (is_driving v) n 0 + cond (is_on_duty v) n 0 ≡ n
unfolding tests
one_of_four zero n e = never e
one_of_four (suc zero) n e = omega arith
one_of_four (suc (suc zero)) n e = omega arith
one_of_four (suc (suc (suc zero))) n e = omega arith
one_of_four (suc (suc (suc (suc zero)))) n e = omega arith
one_of_four (suc (suc (suc (suc (suc v))))) n e = absurd (omega (arith, status_upto (suc (suc (suc (suc (suc v))))) e))

-- SUMS OVER A TEST
pub sum_same : (p : ℕ → Bool) (f g : ℕ → ℕ) (n : ℕ) → ((s : ℕ) → f s ≡ g s) → sum_over p f n ≡ sum_over p g n
unfolding sum_over
sum_same p f g zero e = refl
sum_same p f g (suc n) e = omega (arith, sum_same p f g n e, ap (λ (a : ℕ). cond (p n) a 0) (e n))

cond_nothing : (t : Bool) → cond {A = ℕ} t 0 0 ≡ 0
cond_nothing true = refl
cond_nothing false = refl

cond_plus : (t : Bool) (a b : ℕ) → cond t (a + b) 0 ≡ cond t a 0 + cond t b 0
cond_plus true a b = refl
cond_plus false a b = omega arith

sum_nothing : (p : ℕ → Bool) (n : ℕ) → sum_over p (λ (s : ℕ). 0) n ≡ 0
unfolding sum_over
sum_nothing p zero = refl
sum_nothing p (suc n) = omega (arith, sum_nothing p n, cond_nothing (p n))

sum_plus : (p : ℕ → Bool) (f g : ℕ → ℕ) (n : ℕ) → sum_over p (λ (s : ℕ). f s + g s) n ≡ sum_over p f n + sum_over p g n
unfolding sum_over
sum_plus p f g zero = omega arith
sum_plus p f g (suc n) = omega (arith, sum_plus p f g n, cond_plus (p n) (f n) (g n))

-- of one status v, past n and before it
sum_past : (p : ℕ → Bool) (v a n : ℕ) → n ≤ v → sum_over p (λ (s : ℕ). cond (equals s v) a 0) n ≡ 0
unfolding sum_over
sum_past p v a zero h = refl
sum_past p v a (suc n) h = rw (ne_eqb v n (omega arith)) (omega (arith, sum_past p v a n (omega arith), cond_nothing (p n)))

sum_one : (p : ℕ → Bool) (v a n : ℕ) → v < n → sum_over p (λ (s : ℕ). cond (equals s v) a 0) n ≡ cond (p v) a 0
unfolding sum_over
sum_one p v a zero h = absurd (omega arith)
sum_one p v a (suc n) h =
    let sooner : v < n → sum_over p (λ (s : ℕ). cond (equals s v) a 0) n ≡ cond (p v) a 0 = sum_one p v a n in
    elim (dec_lt v n) [
      | yes i ↦ rw (ne_eqb v n (omega arith)) (omega (arith, sooner i, cond_nothing (p n)))
      | no i ↦ let same : n ≡ v = omega arith in rw (same, eq-eqb v v refl) (omega (arith, sum_past p v a v (omega arith)))
    ]

-- A TOTAL BY STATUS: of a test that passes nothing from n on
module _ (p : ℕ → Bool) (n : ℕ) (bound : (v : ℕ) → n ≤ v → p v ≡ false) where
  of_label : (v a : ℕ) → sum_over p (λ (s : ℕ). cond (equals s v) a 0) n ≡ cond (p v) a 0
  of_label v a = elim (dec_lt v n) [ yes i ↦ sum_one p v a n i | no i ↦ rw (bound v (omega arith)) (sum_past p v a n (omega arith)) ]

  total_by_status : (m : List Span) → sum_over p (λ (s : ℕ). span_total (those (equals s) m)) n ≡ span_total (those p m)
  unfolding relabelled span_total
  total_by_status [] = sum_nothing p n
  total_by_status (x ∷ xs) =
      let a = x.hi - x.lo in
      let rest = total_by_status xs in
      sum_same p (λ (s : ℕ). span_total (those (equals s) (x ∷ xs))) (λ (s : ℕ). cond (equals s x.label) a 0 + span_total (those (equals s) xs)) n
      (λ s. total_those (equals s) x xs)
      ∙ sum_plus p (λ (s : ℕ). cond (equals s x.label) a 0) (λ (s : ℕ). span_total (those (equals s) xs)) n
      ∙ rw (of_label x.label a, rest) (sym (total_those p x xs))

  pub seconds_by_status : (lo hi : ℕ) (m : List Span) → sum_over p (λ (s : ℕ). seconds_of (equals s) lo hi m) n ≡ seconds_of p lo hi m
  unfolding seconds_of
  seconds_by_status lo hi m = total_by_status (within lo hi m)
