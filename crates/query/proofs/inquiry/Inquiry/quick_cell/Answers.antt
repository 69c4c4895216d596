use mir.Facts.{to_z-of_z}
use mir.Val.{SFits}
use mir.Syntax.{w64}
use borrow.Author.Rules.{rules}
use Rattle.key.specs.Rank.{rank}
use Rattle.key.proofs.Laws.{rank_back}
use Rattle.query.proofs.Edges.{cell_silent}
use Rattle.query.proofs.inquiry.Inquiry.quick_cell.Goals as goal

pub returns : goal.returns
returns c =
    let s = c.args in
    let x = c.look-x.result in
    let vx = simp rank_back at c.look-x.ensures in
    let f : SFits w64 c.look-x.result.until = search rules in
    rw (to_z-of_z f)
    (cell_silent s.self.now.table _ _ s.w (rank s.self.now.end) c.requires.0 x.until x.class x.place vx
    (c.is_silent.ensures c.if-not-is_silent.false))
