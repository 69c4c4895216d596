use Prim.Native.Nat.{◌<◌}
use native.Mathlib.Omega.{arith}
use mir.Val.{of_z}
use mir.Syntax.{w64}
use Rattle.key.specs.Rank.{rank}
use Rattle.key.proofs.Laws.{tests, rank_below}
use Rattle.query.proofs.Counting.{counts_to, counted_first, counted_on, counted_all, grows}
use Rattle.query.proofs.inquiry.Inquiry.count.Goals as goal

pub edge-s-requires : goal.edge-s-requires
edge-s-requires c = c.requires

pub loop-s-init : goal.loop-s-init
loop-s-init c =
    let s = c.args in
    (counted_first s.self.now.table _ _ (rank s.self.now.end) (rank s.w.key) c.edge-s.result (c.edge-s.ensures))

pub edge-e-requires : goal.edge-e-requires
edge-e-requires c =
    let v = c.loop-s.invariant in
    (v.edge.stands, v.edge.within)

pub overflow_add-n : goal.overflow_add-n
overflow_add-n c =
    let s = c.args in
    let v = c.loop-s.invariant in
    let lt : rank c.loop-s.s.key < rank s.self.now.end = omega (arith, tests, c.loop-s-test.true) in
    omega (arith, v.room, rank_below (of_z w64 s.self.now.end))

pub edge-s-requires-in-loop-s : goal.edge-s-requires-in-loop-s
edge-s-requires-in-loop-s c =
    let g = c.edge-e.ensures in
    (g.stands, g.within)

pub loop-s-smaller : goal.loop-s-smaller
loop-s-smaller c =
    let s = c.args in
    let v = c.loop-s.invariant in
    let g = c.edge-e.ensures in
    let d = c.edge-s-in-loop-s.ensures in
    let lt : rank c.loop-s.s.key < rank s.self.now.end = omega (arith, tests, c.loop-s-test.true) in
    (omega (arith, grows s.self.now.table _ _ (rank s.self.now.end) c.loop-s.s c.edge-e.result (v.edge.there lt) lt g, d.on, d.within))

pub loop-s-preserved : goal.loop-s-preserved
loop-s-preserved c =
    let s = c.args in
    let v = c.loop-s.invariant in
    let g = c.edge-e.ensures in
    let d = c.edge-s-in-loop-s.ensures in
    let lt : rank c.loop-s.s.key < rank s.self.now.end = omega (arith, tests, c.loop-s-test.true) in
    (counted_on s.self.now.table _ _ (rank s.self.now.end) _ c.loop-s.n c.loop-s.s c.edge-e.result c.edge-s-in-loop-s.result v lt g d)

pub returns : goal.returns
returns c =
    let s = c.args in
    let v = c.loop-s.invariant in
    let d = c.edge-s.ensures in
    let all = counted_all s.self.now.table _ _ (rank s.self.now.end) _ c.loop-s.n c.loop-s.s v (omega (arith, tests, c.loop-s-test.false)) in
    counts_to s.self.now.table _ _ (rank s.self.now.end) (rank s.w.key) c.loop-s.n c.edge-s.result d all
