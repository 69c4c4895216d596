use Prim.Native.Nat.{◌+◌, min}
use mathlib.Core.Path.{◌≡◌, ap, ◌∙◌}
use native.Mathlib.Omega.{arith}
use lib.ListN.{length, length-set}
use lib.Seq.{paste}
use Rattle.splice.proofs.Sets.{put_more}
use Rattle.splice.proofs.put.Goals.{then-k-n, else-k-n}
use Rattle.splice.proofs.put.Goals as goal

pub loop-k-preserved : goal.loop-k-preserved
loop-k-preserved g c =
    let a = c.args in
    let l = c.loop-k in
    elim c.if-k-n.branch [
      | then-k-n w ↦
          let more = put_more a.a.now a.at a.new.now l.k a.n w.index-new-k.result (omega arith) (omega arith) (omega arith) l.invariant.1 in
          (ap length w.a-is ∙ length-set l.a (a.at + l.k) _ ∙ l.invariant.0, w.a-is ∙ more)
      | else-k-n w ↦
          let same : min l.k a.n ≡ min (l.k + 1) a.n = omega arith in
          (ap length w.a-is ∙ l.invariant.0, w.a-is ∙ l.invariant.1 ∙ ap (paste a.a.now a.at a.new.now) same)
    ]
