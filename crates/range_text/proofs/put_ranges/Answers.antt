use native.Mathlib.Omega.{arith}
use mathlib.Core.Path.{refl}
use borrow.Author.Rules.{rules}
use Rattle.filling.proofs.Laws.{as_within}
use Rattle.range_text.proofs.Laws.{ranges_none, ranges_more}
use Rattle.range_text.proofs.put_ranges.Goals as goal

pub loop-i-init : goal.loop-i-init
loop-i-init c = let m = c.args.m.now in ranges_none m.starts m.ends m.values c.args.out.now

pub loop-i-preserved : goal.loop-i-preserved
loop-i-preserved c =
    let m = c.args.m.now in
    let l = c.loop-i in
    as_within refl (omega arith) (ranges_more m.starts m.ends m.values l.i (search rules) (search rules) refl l.invariant c.put_line-to.ensures)
