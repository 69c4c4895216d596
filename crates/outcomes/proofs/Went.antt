-- How an edit went, and its number: each says the other.
use Prim.Native.Nat.{ℕ, zero, suc}
use native.Mathlib.Omega.{arith}
use mathlib.Core.Path.{◌≡◌, refl, ap, sym, ◌∙◌}
use Rattle.std.specs.Prelude.{Ok, Err}
use Rattle.answers.specs.Refusals.{number}
use Rattle.answers.specs.declared.Refusal.{Refusal}
use Rattle.answers.specs.declared.Refusal.TheVariants.{EmptyRange, TooMany, TooShort, NotFormed, NoMap, BadQuery, BadDay, TotalOver, BadStatus}
use Rattle.outcomes.specs.declared.Stored.{Stored}
use Rattle.outcomes.specs.Outcomes.{Edited, leaving}
use Rattle.outcomes.specs.InnerOutcome.{outcome_in_c, Leaves}
use Rattle.outcomes.specs.Answered.{Outcome}

-- no refusal has the number of what is done
pub number_nonzero : (why : Refusal) → number why ≡ 0 → ⊥
number_nonzero EmptyRange e = omega (arith, e)
number_nonzero TooMany e = omega (arith, e)
number_nonzero TooShort e = omega (arith, e)
number_nonzero NotFormed e = omega (arith, e)
number_nonzero NoMap e = omega (arith, e)
number_nonzero BadQuery e = omega (arith, e)
number_nonzero BadDay e = omega (arith, e)
number_nonzero TotalOver e = omega (arith, e)
number_nonzero BadStatus e = omega (arith, e)

-- the outcome with a number
outcome_of : ℕ → Outcome
outcome_of zero = Ok tt
outcome_of (suc zero) = Err EmptyRange
outcome_of (suc (suc zero)) = Err TooMany
outcome_of (suc (suc (suc zero))) = Err TooShort
outcome_of (suc (suc (suc (suc zero)))) = Err NotFormed
outcome_of (suc (suc (suc (suc (suc zero))))) = Err BadStatus
outcome_of (suc (suc (suc (suc (suc (suc zero)))))) = Err NoMap
outcome_of (suc (suc (suc (suc (suc (suc (suc zero))))))) = Err BadQuery
outcome_of (suc (suc (suc (suc (suc (suc (suc (suc zero)))))))) = Err BadDay
outcome_of (suc (suc (suc (suc (suc (suc (suc (suc (suc zero))))))))) = Err TotalOver
outcome_of (suc (suc (suc (suc (suc (suc (suc (suc (suc (suc n)))))))))) = Err BadStatus

number_outcome : (r : Outcome) → outcome_of (outcome_in_c r) ≡ r
unfolding outcome_of
number_outcome (Ok u) = refl
number_outcome (Err EmptyRange) = refl
number_outcome (Err TooMany) = refl
number_outcome (Err TooShort) = refl
number_outcome (Err NotFormed) = refl
number_outcome (Err NoMap) = refl
number_outcome (Err BadQuery) = refl
number_outcome (Err BadDay) = refl
number_outcome (Err TotalOver) = refl
number_outcome (Err BadStatus) = refl

-- outcomes of one number are one
pub number_one : (r t : Outcome) → outcome_in_c r ≡ outcome_in_c t → r ≡ t
number_one r t e = sym (number_outcome r) ∙ ap outcome_of e ∙ number_outcome t

-- from the number to the outcome
pub leaves : {r : Outcome} {m : Stored} {e : Edited} → leaving (outcome_in_c r) m ≡ e → Leaves r m e
leaves is = record { outcome = ap (λ (o : Edited). o.answer) is; map_is = ap (λ (o : Edited). o.left) is }

-- and back
pub numbered : {r : Outcome} {m : Stored} {e : Edited} → Leaves r m e → leaving (outcome_in_c r) m ≡ e
numbered {r} {m} {e} l = ap (λ (k : ℕ). leaving k m) l.outcome ∙ ap (leaving e.answer) l.map_is
