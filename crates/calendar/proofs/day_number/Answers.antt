use native.Mathlib.Omega.{arith}
use Rattle.calendar.proofs.Numbers.{day_number_of}
use Rattle.calendar.proofs.day_number.Goals as goal

pub returns : goal.returns
returns c = let a = c.args.date in (day_number_of a c.years_before.ensures.0 c.months_before.ensures.0 c.from.ensures, omega (arith, c.years_before.ensures.1, c.months_before.ensures.1))
