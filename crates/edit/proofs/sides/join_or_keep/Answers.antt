use mathlib.Core.Path.{sym, ◌∙◌}
use mir.Facts.{to_z-of_z}
use Rattle.key.proofs.Answers.{never}
use Rattle.edit.specs.InnerPlan.{b_clear, b_joined, b_kept}
use Rattle.edit.proofs.sides.join_or_keep.Goals as goal

pub returns-then-same : goal.returns-then-same
returns-then-same c =
    rw (to_z-of_z c.ranges.far) (b_joined c.if-not-beyond.false (c.same.ensures.right c.if-same.true))

pub returns-then-not-beyond : goal.returns-then-not-beyond
returns-then-not-beyond c = rw (to_z-of_z c.ranges.own) (b_clear (λ w. never (sym c.if-not-beyond.true ∙ w)))

pub returns : goal.returns
returns c = rw (to_z-of_z c.ranges.own) (b_kept c.if-not-beyond.false (c.same.ensures.wrong c.if-same.false))
