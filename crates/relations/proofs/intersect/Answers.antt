use mathlib.Core.Path.{◌∙◌}
use mir.Syntax.{w64}
use mir.Val.{SFits}
use mir.Facts.{to_z-of_z}
use borrow.Author.Rules.{rules}
use Rattle.relations.proofs.Returns.{intersect_told}
use Rattle.relations.proofs.intersect.Goals as goal

pub returns : goal.returns
returns c =
    let f : SFits w64 c.args.range.start = search rules in
    let g : SFits w64 c.args.range.end = search rules in
    let f' : SFits w64 c.args.other.start = search rules in
    let g' : SFits w64 c.args.other.end = search rules in
    let h : SFits w64 c.max-start.result = search rules in
    let k : SFits w64 c.min-end.result = search rules in
    let s = rw (to_z-of_z f, to_z-of_z f') at c.max-start.ensures in
    let e = rw (to_z-of_z g, to_z-of_z g') at c.min-end.ensures in
    let told = rw (to_z-of_z h, to_z-of_z k, s, e) at c.full.ensures in
    let given = rw (to_z-of_z h, to_z-of_z k, s, e) at c.then_some.ensures in
    given ∙ intersect_told _ _ _ _ _ _ told
