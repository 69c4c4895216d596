use Prim.Native.Nat.{◌+◌, ◌-◌}
use mathlib.Core.Path.{◌≡◌, ◌∙◌}
use native.Mathlib.Omega.{arith}
use lib.ListN.{length, take, drop}
use lib.Seq.{paste, length-take-le}
use Rattle.splice.proofs.Sets.{stays, splice_done}
use Rattle.splice.proofs.splice_column.Goals.{then-next-p, else-next-p}
use Rattle.splice.proofs.splice_column.Goals as goal

pub returns : goal.returns
returns g c =
    let a = c.args in
    let p = a.p in
    let apt = c.requires.0 in
    let many : length (take p.n a.new.now) ≡ p.n = length-take-le p.n a.new.now (omega (arith, apt.few)) in
    let moved : c.if-next-p.a ≡ paste a.a.now (p.from + p.n) (drop p.to a.a.now) (a.count - p.to) =
    elim c.if-next-p.branch [
      | then-next-p w ↦ w.a-is ∙ w.copy_within.ensures.after
      | else-next-p w ↦ let same : p.from + p.n ≡ p.to = omega arith in w.a-is ∙ rw same (stays a.a.now p.to (a.count - p.to))
    ] in
    splice_done a.a.now p.from p.to a.count (take p.n a.new.now) a.spare apt.ascending apt.within c.requires.1.held
    (omega (arith, many, c.requires.1.room)) c.requires.2 c.if-next-p.a c.put.new.a p.n many
    moved c.put.ensures c.clear.ensures
