use native.Mathlib.Omega.{arith}
use mathlib.Core.Path.{ap}
use lib.ListN.{length}
use Rattle.decimal.proofs.Digits.{decimal_one, length_more, length_u64}
use Rattle.decimal.proofs.places.Goals as goal

pub overflow_add-k : goal.overflow_add-k
overflow_add-k c = omega (arith, length_u64 c.args.n c.ranges.n.fits)

pub loop-rest-preserved : goal.loop-rest-preserved
loop-rest-preserved c =
    let rest = c.loop-rest.rest in
    omega (arith, length_more rest (omega arith) (omega arith))

pub returns : goal.returns
returns c =
    let rest = c.loop-rest.rest in
    omega (arith, ap length (decimal_one rest (omega arith)))
