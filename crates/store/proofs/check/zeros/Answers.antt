use mathlib.Core.Path.{ap}
use mir.Syntax.{w64}
use mir.Val.{SFits, of_z}
use mir.Facts.{sfits_lit, of_z-to_z, Fits-or, Fits-of_z}
use borrow.Author.Rules.{sfits_of}
use lib.ListN.{get_or}
use lib.IntN.{pos}
use Rattle.key.proofs.Laws.{bits_inj}
use Rattle.store.proofs.Zeros.{seen_more}
use Rattle.store.proofs.check.zeros.Goals as goal

pub loop-key-preserved : goal.loop-key-preserved
loop-key-preserved c =
    let l = c.loop-key in
    let f : SFits w64 (get_or c.args.keys.now l.key-index (pos 0)) = sfits_of c.seen-1.given in
    let s = rw (of_z-to_z l.auto.seen) at l.invariant in
    rw (of_z-to_z (Fits-or l.auto.seen (Fits-of_z f))) (seen_more _ (λ e. bits_inj f (sfits_lit tt) e) (λ e. ap (of_z w64) e) s)
