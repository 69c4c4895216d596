use native.Mathlib.Omega.{arith}
use borrow.Author.Rules.{rules}
use Rattle.key.proofs.Laws.{tests}
use Rattle.key.proofs.full.Goals as goal

pub returns-in-HalfOpen : goal.returns-in-HalfOpen
returns-in-HalfOpen c = rw c.in-HalfOpen.is (record { right = λ h. omega (arith, tests); wrong = λ h w. omega (arith, tests) })

pub returns-in-Inclusive : goal.returns-in-Inclusive
returns-in-Inclusive c = rw c.in-Inclusive.is (record { right = λ h. omega (arith, tests); wrong = λ h w. omega (arith, tests) })
