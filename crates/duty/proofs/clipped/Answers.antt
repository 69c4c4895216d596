use native.Mathlib.Omega.{arith}
use Rattle.key.proofs.Laws.{rank_back}
use Rattle.duty.proofs.Walking.{going_end, going_status, going_room, going_on}
use Rattle.duty.proofs.clipped.Goals as goal

pub loop-k-init : goal.loop-k-init
loop-k-init c = record { past = omega arith; within = c.requires.0.order; long = omega arith; sums = λ d. omega arith }

pub returns : goal.returns
returns c =
    let p = c.requires in
    λ d. omega (arith, going_end p.0 p.1 p.2 c.loop-k.invariant (omega arith) d)

pub credit-requires : goal.credit-requires
credit-requires c =
    let p = c.requires in
    let g = c.loop-k.invariant in
    let i = c.loop-k-test.true in
    (going_status p.0 p.1 p.2 g i, going_room p.0 p.1 p.2 g i (simp rank_back at c.shared-n.ensures))

pub loop-k-preserved : goal.loop-k-preserved
loop-k-preserved c =
    let p = c.requires in
    let g = c.loop-k.invariant in
    let i = c.loop-k-test.true in
    going_on p.0 p.1 p.2 g i (simp rank_back at c.shared-n.ensures) c.credit.ensures
