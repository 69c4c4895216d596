use native.Mathlib.Omega.{arith}
use mathlib.Core.Path.{refl}
use Rattle.key.proofs.Laws.{rank_back}
use Rattle.set_total.proofs.Laws.{sum_none, sum_all, length_at, sum_step}
use Rattle.set_total.proofs.sum.Goals as goal

pub loop-k-init : goal.loop-k-init
loop-k-init c = omega (arith, sum_all c.args.kind c.requires.0)

pub apart-requires : goal.apart-requires
apart-requires c = simp rank_back (length_at c.args.kind c.requires.0 c.loop-k.k c.loop-k-test.true refl refl)

pub overflow_add-total : goal.overflow_add-total
overflow_add-total c =
    omega (arith, sum_step c.args.kind c.requires.0 c.loop-k.k c.loop-k-test.true (simp rank_back at c.apart.ensures) c.width.ensures)

pub overflow_add-total-in-loop-k : goal.overflow_add-total-in-loop-k
overflow_add-total-in-loop-k c =
    omega (arith, sum_step c.args.kind c.requires.0 c.loop-k.k c.loop-k-test.true (simp rank_back at c.apart.ensures) c.width.ensures)

pub loop-k-preserved : goal.loop-k-preserved
loop-k-preserved c =
    omega (arith, sum_step c.args.kind c.requires.0 c.loop-k.k c.loop-k-test.true (simp rank_back at c.apart.ensures) c.width.ensures)

pub returns : goal.returns
returns c = omega (arith, sum_none c.args.kind c.requires.0 c.loop-k.k c.loop-k-test.false)
