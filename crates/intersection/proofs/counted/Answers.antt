use native.Mathlib.Omega.{arith}
use Rattle.two_sets.proofs.Writing.{counting_step, counting_done}
use Rattle.two_sets.proofs.Columns.{one_goes}
use Rattle.intersection.proofs.Steps.{most, found_all, found_none, found_no, step_found}
use Rattle.intersection.proofs.counted.Goals as goal

pub loop-i-init : goal.loop-i-init
loop-i-init c = (omega arith, omega arith, record { sum = rw (found_all c.args.kind c.requires.0 c.requires.1) (omega arith) })

pub overflow_add-n : goal.overflow_add-n
overflow_add-n c =
    let (a, b) = c.requires in
    let f =
    counting_step c.step-s.result.found _ c.loop-i.invariant.2 (step_found c.args.kind a b c.loop-i-test.true c.if-j-b.true c.step-s.ensures) in
    let m = most c.args.kind a b in
    omega (arith, f.sum, m, a.held, b.held)

pub loop-i-preserved : goal.loop-i-preserved
loop-i-preserved c =
    let (a, b) = c.requires in
    let one = one_goes c.step-s.result.left in (
      omega (arith, one),
      omega (arith, one),
      counting_step c.step-s.result.found _ c.loop-i.invariant.2 (step_found c.args.kind a b c.loop-i-test.true c.if-j-b.true c.step-s.ensures),
    )

pub returns-else-j-b : goal.returns-else-j-b
returns-else-j-b c =
    let l = c.loop-i in counting_done l.invariant.2 (found_no c.args.kind c.requires.0 c.requires.1 l.i l.j c.if-j-b.false)

pub returns-after-loop-i : goal.returns-after-loop-i
returns-after-loop-i c =
    let l = c.loop-i in counting_done l.invariant.2 (found_none c.args.kind c.requires.0 c.requires.1 l.i l.j c.loop-i-test.false)
