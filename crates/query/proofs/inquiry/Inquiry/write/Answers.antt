use native.Mathlib.Omega.{arith}
use mathlib.Core.Path.{◌∙◌}
use Rattle.key.specs.Rank.{rank}
use Rattle.key.proofs.Laws.{tests, rank_back}
use Rattle.query.proofs.Writing.{opened_first, opened_on, underway_first, underway_on, underway_all, place_for}
use Rattle.query.proofs.inquiry.Inquiry.write.Goals as goal

pub loop-here-init : goal.loop-here-init
loop-here-init c =
    let s = c.args in
    simp rank_back (
      underway_first s.self.now.table _ _ (rank s.self.now.end) (rank s.w.key) s.out_starts.now s.out_ends.now c.requires.2,
      opened_first s.self.now.table _ _ (rank s.self.now.end) s.w c.requires.0 c.requires.1,
    )

pub quick_cell-c-requires : goal.quick_cell-c-requires
quick_cell-c-requires c =
    (c.loop-here.invariant.1.stands, omega (arith, tests))

pub shut-n-requires : goal.shut-n-requires
shut-n-requires c =
    let s = c.args in
    let l = c.loop-here in
    let v = simp rank_back at l.invariant in
    let g = c.quick_cell-c.ensures in
    simp rank_back
    (λ e h. place_for s.self.now.table _ _ (rank s.self.now.end) _ _ _ l.out_starts l.out_ends l.n _ l.here v.0
    v.1 (λ q. g.same (rank l.here.key) (omega arith) g.on ∙ e) h)

pub loop-here-smaller : goal.loop-here-smaller
loop-here-smaller c =
    let g = c.quick_cell-c.ensures in
    omega (arith, g.on, g.within)

pub loop-here-preserved : goal.loop-here-preserved
loop-here-preserved c =
    let s = c.args in
    let l = c.loop-here in
    let u = simp rank_back at l.invariant in
    let g = c.quick_cell-c.ensures in
    let p = simp rank_back at c.pick-start.ensures in
    let v = simp rank_back at c.shut-n.ensures in
    simp rank_back (rw p (
      underway_on s.self.now.table _ _ (rank s.self.now.end) _ _ _ l.out_starts l.out_ends l.n _ l.here c.quick_cell-c.result
          c.shut-n.result _ _ u.0 u.1 g v,
      opened_on s.self.now.table _ _ (rank s.self.now.end) _ l.here c.quick_cell-c.result u.1 g,
    ))

pub shut-requires : goal.shut-requires
shut-requires c =
    let s = c.args in
    let l = c.loop-here in
    let v = simp rank_back at l.invariant in
    simp rank_back
    (λ e h. place_for s.self.now.table _ _ (rank s.self.now.end) _ _ _ l.out_starts l.out_ends l.n _ l.here v.0
    v.1 (λ q. absurd (omega (arith, tests, c.loop-here-test.false))) (omega (arith, tests, c.loop-here-test.false)))

pub returns : goal.returns
returns c =
    let s = c.args in
    let l = c.loop-here in
    let u = simp rank_back at l.invariant in
    let v = simp rank_back at c.shut.ensures in
    underway_all s.self.now.table _ _ (rank s.self.now.end) _ _ _ l.out_starts l.out_ends l.n _ l.here c.shut.result _ _
    u.0 u.1 (omega (arith, tests, c.loop-here-test.false)) v
