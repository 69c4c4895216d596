use native.Mathlib.Omega.{arith}
use Prim.Native.Nat.{◌+◌}
use borrow.Author.Tests.{eqb-false}
use Rattle.key.proofs.Laws.{tests}
use Rattle.byte_form.specs.Layout.{rm01}
use Rattle.byte_io.proofs.Reading.{count_told, stands}
use Rattle.byte_io.proofs.Steps.{step_last, step_next, not_step}
use Rattle.byte_io.proofs.read.step.Goals as goal

pub returns-then-k-count : goal.returns-then-k-count
returns-then-k-count c =
    let a = c.args in
    let x = stands rm01 a.count a.k a.bytes.now c.requires.0 c.range_at-x.ensures in
    record { right = λ h. step_last x (omega (arith, count_told rm01 a.count a.bytes.now)) (omega (arith, tests)); wrong = λ h. absurd (omega (arith, eqb-false)) }

pub returns-else-k-count : goal.returns-else-k-count
returns-else-k-count c =
    let a = c.args in
    step_next (stands rm01 a.count a.k a.bytes.now c.requires.0 c.range_at-x.ensures) (stands rm01 a.count (a.k + 1) a.bytes.now (omega arith) c.range_at.ensures)
    (omega (arith, count_told rm01 a.count a.bytes.now)) (omega (arith, tests)) c.may_follow.ensures

pub returns-else-x : goal.returns-else-x
returns-else-x c =
    let a = c.args in
    let x = stands rm01 a.count a.k a.bytes.now c.requires.0 c.range_at-x.ensures in
    record { right = λ h. absurd (omega (arith, tests)); wrong = λ h w. not_step x (omega (arith, tests)) w }
