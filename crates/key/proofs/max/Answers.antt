use borrow.Author.Rules.{rules}
use mir.Facts.{to_z-of_z}
use mir.Syntax.{w64}
use mir.Val.{SFits}
use Rattle.key.proofs.Laws.{max_greater}
use Rattle.key.proofs.max.Goals as goal

pub returns : goal.returns
returns c =
    let fits : SFits w64 c.max.result = search rules in
    rw (to_z-of_z fits) (rw (to_z-of_z c.ranges.a, to_z-of_z c.ranges.b, max_greater _ _ c.ranges.a c.ranges.b) at c.max.ensures.value)
