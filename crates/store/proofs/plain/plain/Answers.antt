use Rattle.store.proofs.Zeros.{seen_more, seen_noughts}
use Rattle.store.proofs.plain.plain.Goals as goal

pub loop-value-preserved : goal.loop-value-preserved
loop-value-preserved c = seen_more _ (λ e. e) (λ e. e) c.loop-value.invariant

pub returns : goal.returns
returns c = seen_noughts _ c.loop-value-test.false c.loop-value.invariant
