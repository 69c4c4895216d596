use native.Mathlib.Omega.{arith}
use Rattle.calendar.proofs.Sundays.{sunday_from_is}
use Rattle.calendar.proofs.sunday_from.Goals as goal

pub returns : goal.returns
returns c = (omega (arith, sunday_from_is c.args.n.0), omega arith)
