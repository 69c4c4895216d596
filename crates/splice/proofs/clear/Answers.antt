use Prim.Native.Nat.{◌-◌}
use mathlib.Core.Path.{◌≡◌}
use native.Mathlib.Omega.{arith}
use lib.ListN.{length-set}
use Rattle.splice.proofs.Sets.{clear_more}
use Rattle.splice.proofs.clear.Goals as goal

pub loop-p-preserved : goal.loop-p-preserved
loop-p-preserved g c = (omega arith, simp length-set c.loop-p.invariant.1, clear_more c.args.a.now c.args.from c.loop-p.p c.args.with c.loop-p.invariant.2 (omega arith))

pub returns : goal.returns
returns g c =
    let e : c.args.to - c.args.from ≡ c.loop-p.p - c.args.from = omega arith in
    rw e c.loop-p.invariant.2
