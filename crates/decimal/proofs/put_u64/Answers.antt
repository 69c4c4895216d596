use native.Mathlib.Omega.{arith}
use Rattle.decimal.proofs.Digits.{length_u64}
use Rattle.decimal.proofs.put_u64.Goals as goal

pub put_number-requires : goal.put_number-requires
put_number-requires c = omega (arith, length_u64 c.args.n c.ranges.n.fits)

pub returns : goal.returns
returns c = c.put_number.ensures
