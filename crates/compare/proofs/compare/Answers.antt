use native.Mathlib.Omega.{arith}
use mathlib.Core.Path.{ap, sym, ◌∙◌}
use Rattle.std.specs.Prelude.{Ok}
use Rattle.key.proofs.Laws.{rank_back}
use Rattle.compare.proofs.Walk.{all_left, passed, decided, by_counts}
use Rattle.compare.proofs.compare.Goals as goal

pub loop-k-init : goal.loop-k-init
loop-k-init c = all_left _ _

pub returns-then-is_ne : goal.returns-then-is_ne
returns-then-is_ne c =
    decided _ _ c.requires.count_in_bounds c.requires.count2_in_bounds c.loop-k.k c.loop-k.invariant (omega arith) (omega arith) _ (simp rank_back at c.compare_place-order.ensures) (sym c.is_ne.ensures ∙ c.if-is_ne.true)

pub loop-k-preserved : goal.loop-k-preserved
loop-k-preserved c =
    passed _ _ c.requires.count_in_bounds c.requires.count2_in_bounds c.loop-k.k c.loop-k.invariant (omega arith) (omega arith) _ (simp rank_back at c.compare_place-order.ensures) (sym c.is_ne.ensures ∙ c.if-is_ne.false)

pub returns : goal.returns
returns c =
    ap Ok c.cmp.ensures ∙ by_counts _ _ c.requires.count_in_bounds c.requires.count2_in_bounds c.loop-k.k c.loop-k.invariant (omega arith)
