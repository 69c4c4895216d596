-- What the check of one place decides, from the range there and the next.
use Prim.Native.Nat.{ℕ, ◌+◌, ◌≤◌, ◌<◌}
use native.Mathlib.Omega.{arith}
use mathlib.Core.Path.{◌≡◌, refl, ap, sym, subst, ◌∙◌}
use mathlib.Core.Bool.{Bool, true, false}
use lib.ListN.{length, get_or}
use Rattle.std.specs.Bool.{MatchBool}
use Rattle.std.specs.List.{range_with_len, AllWithin, HoldsAt}
use Rattle.std.proofs.lemmas.List.FromFn.{length-range_with_len, get_or-range_with_len}
use Rattle.key.specs.Rank.{rank}
use Rattle.key.specs.Range.{half_open}
use Rattle.key.specs.InnerDecides.{Decides}
use Rattle.key.specs.declared.Entry.{Entry}
use Rattle.key.proofs.Answers.{holds, fails}
use Rattle.outcomes.specs.declared.Stored.{Stored}
use Rattle.store.specs.InnerCheck.{Step}
use Rattle.byte_io.specs.InnerRead.{MayFollow}
use Rattle.byte_io.proofs.Reading.{Stands}

module _ {m : Stored} {k : ℕ} {x : Entry} (at : Stands m k x) where
  pub step_last : m.count ≤ k + 1 → rank x.start < rank x.end → Step half_open m k
  step_last last full = record { full = omega (arith, ap rank at.start, ap rank at.end); past = λ h. absurd (omega arith); unlike = λ h. absurd (omega arith) }

  pub not_step : rank x.end ≤ rank x.start → Step half_open m k → ⊥
  not_step none w = omega (arith, ap rank at.start, ap rank at.end, w.full)

  pub step_next : {y : Entry} {r : Bool} → Stands m (k + 1) y → k + 1 < m.count → rank x.start < rank x.end → Decides r (MayFollow x y) → Decides r (Step half_open m k)
  step_next {y} {r} next more full d = record { right = λ e. yes (d.right e); wrong = λ e w. d.wrong e (no w) }
    where
      yes : MayFollow x y → Step half_open m k
      yes f = record {
        full = omega (arith, ap rank at.start, ap rank at.end);
        past = λ h. omega (arith, f.past, ap rank at.end, ap rank next.start);
        unlike = λ h e v. f.unlike (omega (arith, e, ap rank at.end, ap rank next.start)) (sym at.value ∙ v ∙ next.value);
      }

      no : Step half_open m k → MayFollow x y
      no w = record {
        past = omega (arith, w.past more, ap rank at.end, ap rank next.start);
        unlike = λ e v. w.unlike more (omega (arith, e, ap rank at.end, ap rank next.start)) (at.value ∙ v ∙ sym next.value);
      }

pub is_so : {P : Type 0} → Decides true P → P
is_so d = d.right refl

pub is_not : {P : Type 0} → Decides false P → P → ⊥
is_not d = d.wrong refl

zero-add-at : (n k : ℕ) → k < n → get_or (range_with_len 0 n) k 0 ≡ k
zero-add-at n k h = get_or-range_with_len 0 n k 0 h ∙ omega arith

-- what `all` over the numbers below n decides
pub all_decides : (P : ℕ → Type 0) (n m : ℕ) (r : Bool) → m ≡ n
    → MatchBool r (AllWithin P (range_with_len 0 n) 0 (length (range_with_len 0 n))) ((k : ℕ) × (k < length (range_with_len 0 n)) × HoldsAt (λ k. P k → ⊥) (range_with_len 0 n) k)
    → Decides r ((k : ℕ) → k < m → P k)
all_decides P n m true e h = holds (λ k l. subst P (zero-add-at n k (omega arith)) (h k 0 (omega arith) (omega (arith, length-range_with_len))))
all_decides P n m false e h = fails (λ w. let l : h.0 < n = omega (arith, length-range_with_len, h.1) in subst (λ j. P j → ⊥) (zero-add-at n h.0 l) (h.2 0) (w h.0 (omega arith)))
