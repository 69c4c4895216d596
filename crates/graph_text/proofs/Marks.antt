-- WHAT A MARK SAYS: a quarter has a mark in a row exactly where the map holds that status at some instant of it.
-- In the row of unrecorded time it has one exactly where the map holds nothing at some instant.
use Prim.Native.Nat.{ℕ, zero, suc, ◌+◌, ◌*◌, ◌<◌}
use native.Mathlib.Omega.{arith}
use native.Mathlib.Decide.{dec_lt}
use mathlib.Core.Path.{◌≡◌, refl, ap, ◌∙◌}
use mathlib.Core.Bool.{Bool, true, false, cond}
use mathlib.Core.List.{List}
use mathlib.Core.Option.{Option, some, none}
use borrow.Author.Tests.{ltb-true, lt-ltb}
use lib.IntN.{ℤ}
use Rattle.span.specs.Span.{Span, inside, at, Ordered}
use Rattle.span.specs.Labels.{through, passed}
use Rattle.span.specs.Operations.{tally, count, unless}
use Rattle.span.proofs.Tests.{Within, cases, in_yes, yes_in, in_cases}
use Rattle.span.proofs.Laws.{never}
use Rattle.key.specs.Rank.{rank}
use Rattle.duty.specs.Duty.{is_off_duty, is_sleeper_berth, is_driving, is_on_duty, seconds_of, unrecorded_of, totals_of}
use Rattle.duty.proofs.Instants.{seconds_instants, unrecorded_instants}
use Rattle.report_text.specs.Rows.{row_of}
use Rattle.graph_text.specs.Grid.{in_quarter, is_marked}

-- an instant from lo up to hi at which P holds
pub record Instant (lo hi : ℕ) (P : ℕ → Type 0) : Type 0 where
  pub instant : ℕ
  pub in_window : Within lo hi instant
  pub there : P instant

-- at k a value is held that passes a test
pub record Holds (p : ℕ → Bool) (m : List Span) (k : ℕ) : Type 0 where
  pub value : ℕ
  pub held : at m k ≡ some value
  pub passes : p value ≡ true

-- COUNTS: one that is not 0 has counted an instant, and an instant is counted
record CountedAt (f : ℕ → Option ℕ) (n : ℕ) : Type 0 where
  k : ℕ
  below : k < n
  value : ℕ
  is : f k ≡ some value

found : (f : ℕ → Option ℕ) (n : ℕ) → 0 < count f n → CountedAt f n
unfolding count
found f zero h = absurd (omega arith)
found f (suc n) h = look (f n) refl (found f n)
  where
    look : (o : Option ℕ) → f n ≡ o → (0 < count f n → CountedAt f n) → CountedAt f (suc n)
    look none e ih = let r = ih (omega (arith, h, ap tally e)) in record { k = r.k; below = omega (arith, r.below); value = r.value; is = r.is }
    look (some v) e ih = record { k = n; below = omega arith; value = v; is = e }

counted : (f : ℕ → Option ℕ) (n k : ℕ) {v : ℕ} → k < n → f k ≡ some v → 0 < count f n
unfolding count
counted f zero k h e = absurd (omega arith)
counted f (suc n) k h e =
    let ih : k < n → 0 < count f n = λ i. counted f n k i e in
    elim (dec_lt k n) [
      | yes i ↦ omega (arith, ih i)
      | no i ↦ let same : n ≡ k = omega arith in omega (arith, ap tally (ap f same ∙ e))
    ]

-- what is counted in a window
in_window_is : (lo hi k : ℕ) (o : Option ℕ) {v : ℕ} → cond (inside lo hi k) o none ≡ some v → Within lo hi k × (o ≡ some v)
in_window_is lo hi k o {v} = in_cases lo hi k (λ (x : Option ℕ). x ≡ some v → Within lo hi k × (o ≡ some v)) (λ w e. (w, e)) (λ w e. absurd (never e))

was_held : (p : ℕ → Bool) (o : Option ℕ) {v : ℕ} → through (passed p) o ≡ some v → (u : ℕ) × (o ≡ some u) × (p u ≡ true)
was_held p none = λ e. absurd (never e)
was_held p (some u) {v} =
    cases (p u) (λ (x : Option ℕ). x ≡ some v → (w : ℕ) × (some u ≡ some w) × (p w ≡ true)) (λ t e. (u, refl, t)) (λ t e. absurd (never e))

free : (o : Option ℕ) (t : Bool) {v : ℕ} → unless o (cond t (some 0) none) ≡ some v → (o ≡ none) × (t ≡ true)
free none true e = (refl, refl)
free none false e = absurd (never e)
free (some u) t e = absurd (never e)

-- THE SECONDS of what passes a test, and unrecorded ones
module _ (lo hi : ℕ) (m : List Span) (o : Ordered 0 m) where
  -- what is counted of a test
  abbrev tested : (ℕ → Bool) → ℕ → Option ℕ
  tested p k = cond (inside lo hi k) (through (passed p) (at m k)) none

  pub seconds_held : (p : ℕ → Bool) → 0 < seconds_of p lo hi m → Instant lo hi (Holds p m)
  seconds_held p h =
      let c : 0 < count (tested p) hi = omega (arith, h, seconds_instants p lo hi m o) in
      let r = found _ hi c in
      let w = in_window_is lo hi r.k (through (passed p) (at m r.k)) r.is in
      let u = was_held p (at m r.k) w.1 in
      record { instant = r.k; in_window = w.0; there = record { value = u.0; held = u.1; passes = u.2 } }

  pub held_seconds : (p : ℕ → Bool) → Instant lo hi (Holds p m) → 0 < seconds_of p lo hi m
  held_seconds p i =
      let k = i.instant in
      let e : tested p k ≡ some i.there.value = rw (in_yes lo hi k i.in_window, i.there.held, i.there.passes) in
      omega (arith, seconds_instants p lo hi m o, counted (tested p) hi k i.in_window.to e)

  pub seconds_free : lo < hi → 0 < unrecorded_of lo hi m → Instant lo hi (λ k. at m k ≡ none)
  seconds_free l h =
      let c : 0 < count (λ k. unless (at m k) (cond (inside lo hi k) (some 0) none)) hi = omega (arith, h, unrecorded_instants lo hi m l o) in
      let r = found _ hi c in
      let p = free (at m r.k) (inside lo hi r.k) r.is in
      record { instant = r.k; in_window = yes_in lo hi r.k p.1; there = p.0 }

  pub free_seconds : lo < hi → Instant lo hi (λ k. at m k ≡ none) → 0 < unrecorded_of lo hi m
  free_seconds l i =
      let k = i.instant in
      let e : unless (at m k) (cond (inside lo hi k) (some 0) none) ≡ some 0 = rw (in_yes lo hi k i.in_window, i.there) in
      omega (arith, unrecorded_instants lo hi m l o, counted (λ k. unless (at m k) (cond (inside lo hi k) (some 0) none)) hi k i.in_window.to e)

-- what a mark in a row says of an instant
abbrev pub Shows : ℕ → List Span → ℕ → Type 0
Shows zero m k = Holds is_off_duty m k
Shows (suc zero) m k = Holds is_sleeper_berth m k
Shows (suc (suc zero)) m k = Holds is_driving m k
Shows (suc (suc (suc zero))) m k = Holds is_on_duty m k
Shows (suc (suc (suc (suc zero)))) m k = at m k ≡ none
Shows (suc (suc (suc (suc (suc j))))) m k = ⊥

-- A MARK is there exactly where some instant of the quarter is of that row
module _ (m : List Span) (s : ℤ) (q : ℕ) (o : Ordered 0 m) where
  abbrev from : ℕ
  from = rank s + 900 * q

  abbrev upto : ℕ
  upto = rank s + 900 * (q + 1)

  pub mark_instant : (j : ℕ) → is_marked m s j q ≡ true → Instant from upto (Shows j m)
  unfolding is_marked in_quarter totals_of row_of
  mark_instant zero e = seconds_held from upto m o is_off_duty (ltb-true _ _ e)
  mark_instant (suc zero) e = seconds_held from upto m o is_sleeper_berth (ltb-true _ _ e)
  mark_instant (suc (suc zero)) e = seconds_held from upto m o is_driving (ltb-true _ _ e)
  mark_instant (suc (suc (suc zero))) e = seconds_held from upto m o is_on_duty (ltb-true _ _ e)
  mark_instant (suc (suc (suc (suc zero)))) e = seconds_free from upto m o (omega arith) (ltb-true _ _ e)
  mark_instant (suc (suc (suc (suc (suc j))))) e = absurd (omega (arith, ltb-true 0 0 e))

  pub instant_mark : (j : ℕ) → Instant from upto (Shows j m) → is_marked m s j q ≡ true
  unfolding is_marked in_quarter totals_of row_of
  instant_mark zero i = lt-ltb _ _ (held_seconds from upto m o is_off_duty i)
  instant_mark (suc zero) i = lt-ltb _ _ (held_seconds from upto m o is_sleeper_berth i)
  instant_mark (suc (suc zero)) i = lt-ltb _ _ (held_seconds from upto m o is_driving i)
  instant_mark (suc (suc (suc zero))) i = lt-ltb _ _ (held_seconds from upto m o is_on_duty i)
  instant_mark (suc (suc (suc (suc zero)))) i = lt-ltb _ _ (free_seconds from upto m o (omega arith) i)
  instant_mark (suc (suc (suc (suc (suc j))))) i = absurd i.there
