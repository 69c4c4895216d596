use native.Mathlib.Omega.{arith}
use mir.Syntax.{w64}
use mir.Val.{of_z}
use Rattle.key.proofs.Laws.{tests, rank_back, rank_below}
use Rattle.key.proofs.Lawful.{lawful}
use Rattle.key.proofs.Answers.{holds, fails}
use Rattle.relations.proofs.apart.Goals as goal

pub next-requires : goal.next-requires
next-requires c = simp rank_back (omega (arith, tests, rank_below (of_z w64 c.args.other.start)))

pub returns-in-HalfOpen : goal.returns-in-HalfOpen
returns-in-HalfOpen c = rw c.in-HalfOpen.is (holds (omega (arith, tests)))

pub returns-in-Inclusive : goal.returns-in-Inclusive
returns-in-Inclusive c =
    let next = simp rank_back at c.next.ensures in
    rw c.in-Inclusive.is (record { right = λ e. omega (arith, tests, next, e); wrong = λ e w. omega (arith, tests, next, e) })

pub returns-else-start-end : goal.returns-else-start-end
returns-else-start-end c = let a = c.args in rw c.if-start-end.false (fails (λ w. omega (arith, tests, (lawful a.kind).up_to a.range.end)))
