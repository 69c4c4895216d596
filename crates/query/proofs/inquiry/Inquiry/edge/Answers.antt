use native.Mathlib.Omega.{arith}
use Rattle.key.specs.Rank.{rank}
use Rattle.key.proofs.Laws.{tests}
use Rattle.query.proofs.Edges.{sought_first, sought_on, edge_here, edge_end, same_yes, same_no}
use Rattle.query.proofs.inquiry.Inquiry.edge.Goals as goal

pub loop-here-init : goal.loop-here-init
loop-here-init c =
    let s = c.args in
    (sought_first s.self.now.table _ _ (rank s.self.now.end) s.so s.w c.requires.0 c.requires.1)

pub cell_at-c-requires : goal.cell_at-c-requires
cell_at-c-requires c =
    (c.loop-here.invariant.stands, omega (arith, tests))

pub returns-then-c-so : goal.returns-then-c-so
returns-then-c-so c =
    let s = c.args in
    edge_here s.self.now.table _ _ (rank s.self.now.end) s.so (rank s.w.key) c.loop-here.here c.cell_at-c.result (c.loop-here.invariant)
    (c.cell_at-c.ensures) (same_yes c.cell_at-c.result.yes s.so c.if-c-so.true)

pub loop-here-smaller : goal.loop-here-smaller
loop-here-smaller c =
    let g = c.cell_at-c.ensures in
    omega (arith, g.on, g.within)

pub loop-here-preserved : goal.loop-here-preserved
loop-here-preserved c =
    let s = c.args in
    (sought_on s.self.now.table _ _ (rank s.self.now.end) s.so (rank s.w.key) c.loop-here.here c.cell_at-c.result (c.loop-here.invariant)
    (c.cell_at-c.ensures) (same_no c.cell_at-c.result.yes s.so c.if-c-so.false))

pub returns : goal.returns
returns c =
    let s = c.args in
    edge_end s.self.now.table _ _ (rank s.self.now.end) s.so (rank s.w.key) c.loop-here.here (c.loop-here.invariant) (omega (arith, tests))
