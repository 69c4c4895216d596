use native.Mathlib.Omega.{arith}
use mathlib.Core.Path.{sym, ap}
use Prim.Native.Nat.{ℕ}
use Rattle.std.specs.Prelude.{Some}
use Rattle.decimal.specs.Reading.{as_negative}
use Rattle.decimal.proofs.Steps.{subtracted}
use Rattle.decimal.proofs.negative.Goals as goal

pub returns-then-n-eq0 : goal.returns-then-n-eq0
unfolding as_negative
returns-then-n-eq0 c = sym (ap (λ (n : ℕ). as_negative (Some n)) c.if-n-eq0.true)

pub returns : goal.returns
returns c = subtracted c.args.n _ (omega arith) c.checked_sub_unsigned.ensures
