-- What touches a range, and what is cut off at it, by the laws of its kind.
use Prim.Native.Nat.{ℕ, zero, suc, ◌+◌, ◌≤◌, ◌<◌}
use native.Mathlib.Omega.{arith}
use mathlib.Core.Path.{◌≡◌, refl}
use mathlib.Core.List.{[], ◌∷◌}
use lib.ListN.{take}
use lib.IntN.{ℤ}
use mir.Syntax.{w64}
use mir.Val.{SFits}
use Rattle.key.specs.Rank.{rank, keys}
use Rattle.key.specs.Range.{Kind}
use Rattle.key.proofs.Lawful.{Lawful}
use Rattle.outcomes.specs.Stored.{Spare}
use Rattle.edit.specs.InnerPlan.{LeastEnd, GreatestStart}

module _ {kind : Kind} (law : Lawful kind) where
  -- the end of a range up to a key, which is not the least
  pub cut_left : (key : ℤ) {r : ℤ} → 0 < rank key → r ≡ kind.ending (rank key) → (kind.past r ≡ rank key) × SFits w64 r
  cut_left key h e = rw e (law.written (rank key) h (law.keys_within key), law.written_fits (rank key) h (law.keys_within key))

  -- a key comes after a range that ends before another does
  pub cut_right : (end last : ℤ) → rank end < rank last → kind.past end < keys
  cut_right end last h = omega (arith, law.later end last h, law.ends_within last, law.limit_keys)

  pub least_end : {start r : ℤ} → kind.past r ≡ rank start → SFits w64 r → LeastEnd kind start r
  least_end {start} {r} p f = record {
    short = λ e h. omega (arith, law.later e r h);
    reaches = λ e h. omega (arith, law.no_later r e h);
    cuts = λ _. p;
    fits = f;
  }

  pub greatest_start : {end r : ℤ} → rank r ≡ kind.past end → SFits w64 r → GreatestStart kind end r
  greatest_start p f = record { begins = λ s h. omega arith; off = λ s h. omega arith; cuts = λ _. p; fits = f }

-- one more in front of two at most
pub one_more : {A : Type 0} (n : ℕ) (w x y z : A) → n ≤ 2 → take (n + 1) (w ∷ x ∷ y ∷ []) ≡ w ∷ take n (x ∷ y ∷ z ∷ [])
one_more zero w x y z h = refl
one_more (suc zero) w x y z h = refl
one_more (suc (suc zero)) w x y z h = refl
one_more (suc (suc (suc n))) w x y z h = absurd (omega arith)

-- and what is 0 past n entries is so past one more
pub one_more_blank : {A : Type 0} (n : ℕ) (w x y z : A) {u : A} → Spare (x ∷ y ∷ z ∷ []) n u → Spare (w ∷ x ∷ y ∷ []) (n + 1) u
one_more_blank n w x y z s zero h = absurd (omega arith)
one_more_blank n w x y z s (suc zero) h = s 0 (omega arith)
one_more_blank n w x y z s (suc (suc zero)) h = s 1 (omega arith)
one_more_blank n w x y z s (suc (suc (suc k))) h = refl

pub all_blank : {A : Type 0} (u : A) → Spare (u ∷ u ∷ u ∷ []) 0 u
all_blank u zero h = refl
all_blank u (suc zero) h = refl
all_blank u (suc (suc zero)) h = refl
all_blank u (suc (suc (suc k))) h = refl
