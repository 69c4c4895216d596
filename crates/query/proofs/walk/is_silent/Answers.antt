use native.Mathlib.Omega.{arith}
use borrow.Author.Tests.{eqb-true}
use mathlib.Core.Path.{◌≡◌}
use Rattle.query.proofs.Silence.{silent_low, silent_high, silent_five}
use Rattle.query.proofs.walk.is_silent.Goals as goal

pub returns-then-class-lt5 : goal.returns-then-class-lt5
returns-then-class-lt5 c e = let a = c.args in silent_low a.t a.class c.if-class-lt5.true (c.is_clear.ensures e)

pub returns-then-class-gt5 : goal.returns-then-class-gt5
returns-then-class-gt5 c e = let a = c.args in silent_high a.t a.class c.if-class-gt5.true (c.is_clear-then-class-gt5.ensures e)

pub returns-then-t-eq0 : goal.returns-then-t-eq0
returns-then-t-eq0 c e =
    let a = c.args in
    let five : a.class ≡ 5 = omega arith in
    rw five (silent_five a.t c.if-t-eq0.true (c.is_clear-then-t-eq0.ensures e))

pub returns-else-t-eq0 : goal.returns-else-t-eq0
returns-else-t-eq0 c e = absurd (omega (arith, eqb-true))
