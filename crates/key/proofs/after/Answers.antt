use native.Mathlib.Omega.{arith}
use mir.Syntax.{w64}
use mir.Val.{of_z}
use borrow.Author.Rules.{rules}
use Rattle.key.proofs.Laws.{rank_back, next_fits, rank_next}
use Rattle.key.proofs.after.Goals as goal

pub overflow_add-result : goal.overflow_add-result
overflow_add-result c =
    let s = c in
    let later = rw c.in-Inclusive.is at s.requires in
    next_fits (of_z w64 s.args.end) (omega (arith, later))

pub returns-in-HalfOpen : goal.returns-in-HalfOpen
returns-in-HalfOpen c = rw c.in-HalfOpen.is (rank_back (of_z w64 c.args.end))

pub returns-in-Inclusive : goal.returns-in-Inclusive
returns-in-Inclusive c =
    let s = c in
    let later = rw c.in-Inclusive.is at s.requires in
    rw c.in-Inclusive.is (simp rank_back (omega (arith, rank_next (of_z w64 s.args.end) (omega (arith, later)))))
