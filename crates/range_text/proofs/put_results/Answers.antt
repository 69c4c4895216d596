use native.Mathlib.Omega.{arith}
use mathlib.Core.Path.{refl}
use borrow.Author.Rules.{rules}
use Rattle.filling.proofs.Laws.{as_within}
use Rattle.range_text.proofs.Laws.{results_none, results_more}
use Rattle.range_text.proofs.put_results.Goals as goal

pub loop-i-init : goal.loop-i-init
loop-i-init c = let a = c.args in results_none a.starts.now a.ends.now a.out.now

pub loop-i-preserved : goal.loop-i-preserved
loop-i-preserved c =
    let a = c.args in
    let l = c.loop-i in
    as_within refl (omega arith) (results_more a.starts.now a.ends.now l.i (search rules) (search rules) l.invariant c.put_result_line-to.ensures)
