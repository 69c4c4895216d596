use Prim.Native.Nat.{◌+◌, ◌/◌}
use native.Mathlib.Omega.{arith}
use lib.ListN.{get_or}
use lib.IntN.{pos}
use borrow.Author.Rules.{sfits_of}
use mir.Syntax.{w64}
use mir.Val.{SFits}
use mir.Facts.{to_z-of_z}
use Rattle.store.proofs.Seeking.{halved}
use Rattle.store.proofs.search.first_past.Goals as goal

pub loop-left-preserved : goal.loop-left-preserved
loop-left-preserved c =
    let l = c.loop-left in
    let f : SFits w64 (get_or c.args.keys.now (l.low + l.left / 2) (pos 0)) = sfits_of c.middle-1.given in
    rw c.advance-low.ensures (halved c.requires.2 l.invariant (omega arith) c.full-goes.result (rw (to_z-of_z f) at c.full-goes.ensures))
