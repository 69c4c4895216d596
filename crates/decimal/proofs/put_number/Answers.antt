use Prim.Native.Nat.{ℕ}
use native.Mathlib.Omega.{arith}
use mathlib.Core.Path.{ap, ◌∙◌}
use Rattle.text.proofs.Laws.{adds_as}
use Rattle.decimal.specs.Decimal.{digits_text}
use Rattle.decimal.proofs.Digits.{digits_all}
use Rattle.decimal.proofs.put_number.Goals as goal

pub returns : goal.returns
returns c =
    let s = c.args in
    let f = c.ranges.n.fits in
    let p = c.places.ensures in
    adds_as (ap (λ (k : ℕ). digits_text k s.n) p ∙ digits_all s.n (omega arith)) c.put_digits.ensures
