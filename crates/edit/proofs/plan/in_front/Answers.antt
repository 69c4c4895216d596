use mathlib.Core.Path.{refl}
use native.Mathlib.Omega.{arith}
use Rattle.edit.proofs.Cuts.{one_more, one_more_blank}
use Rattle.edit.proofs.plan.in_front.Goals as goal

pub returns-in-Some : goal.returns-in-Some
returns-in-Some c =
    let p = c.args.p in
    record {
      from_is = refl;
      to_is = refl;
      few = omega arith;
      are = rw c.in-Some.is (one_more p.n _ p.x p.y p.z c.requires.0);
      blank = one_more_blank p.n _ p.x p.y p.z c.requires.1;
    }
