use mathlib.Core.Path.{ap, ◌∙◌}
use mir.Facts.{to_z-of_z}
use mir.Val.{SFits}
use mir.Syntax.{w64}
use borrow.Author.Rules.{rules}
use Rattle.key.specs.Rank.{rank}
use Rattle.key.proofs.Laws.{rank_back, rank_lesser}
use Rattle.query.proofs.Edges.{cell_made}
use Rattle.query.proofs.inquiry.Inquiry.cell_of.Goals as goal

pub returns : goal.returns
returns c =
    let s = c.args in
    let x = s.x in
    let y = s.y in
    let k = simp rank_back at (ap rank c.min.ensures ∙ rank_lesser _ _) in
    let f : SFits w64 c.min.result = search rules in
    rw (to_z-of_z f)
    (cell_made s.self.now.table _ _ s.w (rank s.self.now.end) x.until y.until c.min.result x.class y.class x.place y.place c.says.result c.requires.0 c.requires.1 k c.says.ensures)
