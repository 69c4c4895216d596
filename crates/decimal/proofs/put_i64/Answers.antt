use native.Mathlib.Omega.{arith}
use mathlib.Core.Path.{sym, ap, ◌∙◌}
use mir.Facts.{to_z-of_z}
use Rattle.text.proofs.Laws.{adds_as, adds_then}
use Rattle.decimal.specs.Decimal.{signed_text}
use Rattle.decimal.proofs.Signs.{signed_negative, signed_natural, length_magnitude}
use Rattle.decimal.proofs.put_i64.Goals as goal

pub put_number-requires : goal.put_number-requires
put_number-requires c = omega (arith, length_magnitude c.unsigned_abs.result (omega arith))

pub returns-then-n-lt0 : goal.returns-then-n-lt0
returns-then-n-lt0 c =
    let e = signed_negative _ c.if-n-lt0.true c.unsigned_abs.ensures.value in
    adds_as (sym e ∙ ap signed_text (to_z-of_z c.ranges.n)) (adds_then c.put_byte-to.ensures c.put_number.ensures)

pub put_number-requires-2 : goal.put_number-requires-2
put_number-requires-2 c = omega (arith, length_magnitude c.unsigned_abs-2.result (omega arith))

pub returns : goal.returns
returns c =
    let e = signed_natural _ c.if-n-lt0.false c.unsigned_abs-2.ensures.value in
    adds_as (sym e ∙ ap signed_text (to_z-of_z c.ranges.n)) c.put_number-2.ensures
