use native.Mathlib.Omega.{arith}
use Rattle.calendar.proofs.Lengths.{years_before_is}
use Rattle.calendar.proofs.years_before.Goals as goal

pub returns : goal.returns
returns c = (omega (arith, years_before_is c.args.year c.requires), omega arith)
