use Prim.Native.Nat.{◌+◌}
use native.Mathlib.Omega.{arith}
use mathlib.Core.Path.{◌≡◌, ◌∙◌}
use Rattle.key.proofs.Laws.{rank_back}
use Rattle.duty.proofs.Walking.{going_turned, going_status, going_room, going_on, whole_secs, fewer, empty_has}
use Rattle.duty.proofs.whole.Goals as goal

pub loop-k-init : goal.loop-k-init
loop-k-init c = (record { past = omega arith; within = c.requires.0.order; long = omega arith; sums = λ d. omega (arith, empty_has d) }, omega arith)

pub joined-requires : goal.joined-requires
joined-requires c =
    let p = c.requires in
    λ d. omega (arith, p.4 d, c.loop-k.invariant.0.sums d)

pub clipped-requires : goal.clipped-requires
clipped-requires c =
    let p = c.requires in
    let g = c.loop-k.invariant.0 in (
      fewer p.0 _ _ g.past g.within (omega arith),
      (λ k i h. p.1 k i (omega (arith, g.past))),
      (λ d. omega (arith, p.4 d, c.joined.ensures d, g.sums d)),
    )

pub returns : goal.returns
returns c =
    let g = c.loop-k.invariant.0 in
    λ d. omega (arith, c.clipped.ensures d, c.joined.ensures d, g.sums d)

pub credit-requires : goal.credit-requires
credit-requires c =
    let p = c.requires in
    let l = c.loop-k in
    let i = c.loop-k-test.true in
    let n = simp rank_back at c.seconds-n.ensures ∙ whole_secs p.0 p.2 p.3 l.k l.invariant.0.past (omega arith) in
    (going_status p.0 p.1 p.4 l.invariant.0 (omega arith), going_room p.0 p.1 p.4 l.invariant.0 (omega arith) n)

pub credit-requires-in-loop-k : goal.credit-requires-in-loop-k
credit-requires-in-loop-k c =
    let p = c.requires in
    let l = c.loop-k in
    let i = c.loop-k-test.true in
    let n = simp rank_back at c.seconds-n.ensures ∙ whole_secs p.0 p.2 p.3 l.k l.invariant.0.past (omega arith) in
    let g = going_turned l.invariant.1 (going_on p.0 p.1 p.4 l.invariant.0 (omega arith) n c.credit.ensures) in
    let o = simp rank_back at c.seconds-o.ensures
    ∙ whole_secs p.0 p.2 p.3 (l.k + 1) (omega (arith, l.invariant.0.past)) (omega arith) in
    (going_status p.0 p.1 p.4 g (omega arith), going_room p.0 p.1 p.4 g (omega arith) o)

pub loop-k-preserved : goal.loop-k-preserved
loop-k-preserved c =
    let p = c.requires in
    let l = c.loop-k in
    let i = c.loop-k-test.true in
    let n = simp rank_back at c.seconds-n.ensures ∙ whole_secs p.0 p.2 p.3 l.k l.invariant.0.past (omega arith) in
    let g = going_on p.0 p.1 p.4 l.invariant.0 (omega arith) n c.credit.ensures in
    let o = simp rank_back at c.seconds-o.ensures
    ∙ whole_secs p.0 p.2 p.3 (l.k + 1) (omega (arith, l.invariant.0.past)) (omega arith) in
    let h = going_on p.0 p.1 p.4 (going_turned l.invariant.1 g) (omega arith) o c.credit-in-loop-k.ensures in
    let e : l.k + 1 + 1 ≡ l.k + 2 = omega arith in
    (going_turned g.long (rw e at h), h.long)
