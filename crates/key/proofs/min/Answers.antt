use borrow.Author.Rules.{rules}
use mir.Facts.{to_z-of_z}
use mir.Syntax.{w64}
use mir.Val.{SFits}
use Rattle.key.proofs.Laws.{min_lesser}
use Rattle.key.proofs.min.Goals as goal

pub returns : goal.returns
returns c =
    let fits : SFits w64 c.min.result = search rules in
    rw (to_z-of_z fits) (rw (to_z-of_z c.ranges.a, to_z-of_z c.ranges.b, min_lesser _ _ c.ranges.a c.ranges.b) at c.min.ensures.value)
