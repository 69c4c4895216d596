use native.Mathlib.Omega.{arith}
use Rattle.key.proofs.Laws.{rank_back}
use Rattle.two_sets.proofs.Kinded.{greater_rank}
use Rattle.two_sets.proofs.Writing.{counting_one}
use Rattle.two_sets.proofs.Columns.{one_goes}
use Rattle.union.proofs.Steps.{still_open, counting_on, open_last}
use Rattle.union.proofs.walk.counted_from.Goals as goal

pub loop-here-preserved : goal.loop-here-preserved
loop-here-preserved c =
    let l = c.loop-here in
    let s = c.requires in
    let x = c.next-t.result in
    let t = c.next-t.ensures in
    let v = l.invariant.1 in
    let p = simp rank_back at c.meets-joins.ensures in
    let q = simp rank_back at c.pick.ensures in
    let g = simp rank_back at (greater_rank l.here.end x.end c.max.ensures) in (
      omega (arith, one_goes c.meets-joins.result, one_goes x.left),
      simp rank_back (still_open c.args.kind s.0 s.1 v x t c.meets-joins.result p q g),
      simp rank_back (counting_on c.args.kind s.0 s.1 v x t c.meets-joins.result p q g l.invariant.2),
    )

pub returns : goal.returns
returns c =
    let l = c.loop-here in
    counting_one l.invariant.2 (open_last c.args.kind c.requires.0 c.requires.1 (omega arith) l.invariant.1)
