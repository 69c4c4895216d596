-- A test that antt computes at every number below a bound, and what it says at each of them. And cases of a Bool.
use Prim.Native.Nat.{ℕ, zero, suc, ◌<◌}
use native.Mathlib.Omega.{arith}
use native.Mathlib.Decide.{ℕ_discrete}
use mathlib.Core.Path.{◌≡◌, refl, sym, subst}
use mathlib.Core.Bool.{Bool, true, false, ◌&&◌, cond}
use lib.Dec.{T}

abbrev pub every : (ℕ → Bool) → ℕ → Bool
every test zero = true
every test (suc n) = test n && every test n

and_left : (a b : Bool) → T (a && b) → T a
and_left true b t = tt
and_left false b t = absurd t

and_right : (a b : Bool) → T (a && b) → T b
and_right true b t = t
and_right false b t = absurd t

pub at : (test : ℕ → Bool) (n : ℕ) → T (every test n) → (k : ℕ) → k < n → T (test k)
at test zero t k h = absurd (omega arith)
at test (suc n) t k h =
    elim (ℕ_discrete k n) [
      | yes e ↦ subst (λ (i : ℕ). T (test i)) (sym e) (and_left (test n) (every test n) t)
      | no e ↦ at test n (and_right (test n) (every test n) t) k (omega arith)
    ]

-- a Bool is true or false, and what is chosen by it is the one or the other
pub cases : {A : Type 0} {x y : A} (t : Bool) (P : A → Type 0) → (t ≡ true → P x) → (t ≡ false → P y) → P (cond t x y)
cases true P f g = f refl
cases false P f g = g refl

pub both : (s t : Bool) → (s && t) ≡ true → (s ≡ true) × (t ≡ true)
both true true e = (refl, refl)
both true false e = (refl, e)
both false t e = (e, absurd (subst T (sym e) tt))
