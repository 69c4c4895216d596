use native.Mathlib.Omega.{arith}
use Rattle.key.proofs.Answers.{fails, not_full}
use Rattle.relations.proofs.Returns.{touches_empty, touches_told, and_also, turned}
use Rattle.relations.proofs.touches.Goals as goal

pub returns-then-not-both_full : goal.returns-then-not-both_full
returns-then-not-both_full c = touches_empty _ _ _ _ _ (c.both_full.ensures.wrong c.if-not-both_full.true)

pub returns-then-not-apart : goal.returns-then-not-apart
returns-then-not-apart c =
    let real = c.both_full.ensures.right c.if-not-both_full.false in
    touches_told _ _ _ _ _ real.0 real.1 _ (and_also (not_full c.apart.ensures c.if-not-apart.true) (turned _ c.apart-then-not-apart.ensures))

pub returns-else-not-apart : goal.returns-else-not-apart
returns-else-not-apart c =
    let real = c.both_full.ensures.right c.if-not-both_full.false in
    let gap = c.apart.ensures.right c.if-not-apart.false in
    rw c.if-not-apart.false (touches_told _ _ _ _ _ real.0 real.1 _ (fails (λ h. omega (arith, gap, h.0))))
