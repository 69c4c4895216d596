use native.Mathlib.Omega.{arith}
use Rattle.key.proofs.Laws.{tests}
use Rattle.byte_io.proofs.read.may_follow.Goals as goal

pub returns-then-x-next-2 : goal.returns-then-x-next-2
returns-then-x-next-2 c = record { right = λ h. record { past = omega (arith, tests); unlike = λ e. absurd (omega (arith, tests)) }; wrong = λ h. absurd (omega (arith, tests)) }

pub returns-else-x-next : goal.returns-else-x-next
returns-else-x-next c = record { right = λ h. absurd (omega (arith, tests)); wrong = λ h w. omega (arith, tests, w.past) }
