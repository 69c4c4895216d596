use Rattle.key.proofs.Answers.{fails}
use Rattle.relations.proofs.Returns.{overlaps_empty, overlaps_told, and_also}
use Rattle.relations.proofs.overlaps.Goals as goal

pub returns-then-not-both_full : goal.returns-then-not-both_full
returns-then-not-both_full c = overlaps_empty _ _ _ _ _ (c.both_full.ensures.wrong c.if-not-both_full.true)

pub returns-then-starts_before : goal.returns-then-starts_before
returns-then-starts_before c =
    let real = c.both_full.ensures.right c.if-not-both_full.false in
    let before = c.starts_before.ensures in
    overlaps_told _ _ _ _ _ real.0 real.1 _ (and_also (before.right c.if-starts_before.true) c.starts_before-then-starts_before.ensures)

pub returns-else-starts_before : goal.returns-else-starts_before
returns-else-starts_before c =
    let real = c.both_full.ensures.right c.if-not-both_full.false in
    let before = c.starts_before.ensures in
    rw c.if-starts_before.false (overlaps_told _ _ _ _ _ real.0 real.1 _ (fails (λ h. before.wrong c.if-starts_before.false h.0)))
