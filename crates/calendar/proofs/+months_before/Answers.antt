use Prim.Native.Nat.{◌≤◌}
use native.Mathlib.Omega.{arith}
use Rattle.calendar.proofs.Lengths.{no_months, more_months}
use Rattle.calendar.proofs.+months_before.Goals as goal

pub returns-then-month-eq0 : goal.returns-then-month-eq0
returns-then-month-eq0 t c = (no_months c.args.year c.args.month c.if-month-eq0.true, omega arith)

pub returns : goal.returns
returns t c =
    let a = c.args in
    let h : 1 ≤ a.month = omega (arith, c.if-month-eq0.false) in
    (omega (arith, c.months_before.ensures.0, c.month_length.ensures.0, more_months a.year a.month h), omega (arith, c.month_length.ensures.1, c.months_before.ensures.1))
