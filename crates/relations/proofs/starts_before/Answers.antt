use mir.Facts.{to_z-of_z}
use mir.Syntax.{w64}
use mir.Val.{SFits}
use borrow.Author.Rules.{rules}
use Rattle.relations.proofs.starts_before.Goals as goal

pub returns : goal.returns
returns c =
    let start_fits : SFits w64 c.args.range.start = search rules in
    let end_fits : SFits w64 c.args.other.end = search rules in
    rw (to_z-of_z start_fits, to_z-of_z end_fits) at c.full.ensures
