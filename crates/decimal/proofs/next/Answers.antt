use native.Mathlib.Omega.{arith}
use mathlib.Core.Path.{sym}
use Rattle.decimal.proofs.Reading.{next_low, next_high}
use Rattle.decimal.proofs.Steps.{no_product, added}
use Rattle.decimal.proofs.next.Goals as goal

pub returns-in_err-checked_mul-in-48-to-57 : goal.returns-in_err-checked_mul-in-48-to-57
returns-in_err-checked_mul-in-48-to-57 c =
    let s = c.args in
    let e = c.in_err-checked_mul-in-48-to-57 in
    rw (no_product s.n s.byte (omega arith) (omega arith) e.ensures) c.from_residual.ensures

pub returns-in_ok-checked_mul-in-48-to-57 : goal.returns-in_ok-checked_mul-in-48-to-57
returns-in_ok-checked_mul-in-48-to-57 c =
    let s = c.args in
    let e = c.in_ok-checked_mul-in-48-to-57 in
    added s.n s.byte _ (omega arith) (omega arith) e.ensures.1 c.from.ensures c.checked_add.ensures

pub returns-in_default : goal.returns-in_default
returns-in_default c = let s = c.args in sym (next_low s.n s.byte (omega arith))

pub returns-in_default-2 : goal.returns-in_default-2
returns-in_default-2 c = let s = c.args in sym (next_high s.n s.byte (omega arith) (omega arith))
