use native.Mathlib.Omega.{arith}
use mathlib.Core.Path.{sym, ap, ◌∙◌}
use mir.Syntax.{w64}
use mir.Val.{to_z, of_z}
use mir.Facts.{to_z-of_z}
use lib.ListN.{length}
use lib.Seq.{length-take-le}
use Rattle.key.proofs.Laws.{to_z_fit}
use Rattle.decimal.specs.Decimal.{signed_text}
use Rattle.text.specs.Text.{right_of}
use Rattle.text.proofs.Laws.{adds_as, text_first, text_room_lem}
use Rattle.decimal.proofs.Signs.{length_signed}
use Rattle.decimal.proofs.put_i64_right.Goals as goal

pub slice_bounds-text-end : goal.slice_bounds-text-end
slice_bounds-text-end c =
    let h = length_signed (to_z w64 (of_z w64 c.args.n)) (to_z_fit (of_z w64 c.args.n)) in
    text_room_lem c.put_i64-k.ensures h

pub slice_bounds-put_right-end : goal.slice_bounds-put_right-end
slice_bounds-put_right-end c =
    let h = length_signed (to_z w64 (of_z w64 c.args.n)) (to_z_fit (of_z w64 c.args.n)) in
    sym (length-take-le c.put_i64-k.result c.put_i64-k.new.out (text_room_lem c.put_i64-k.ensures h))

pub put_right-requires : goal.put_right-requires
put_right-requires c =
    let p = c.put_i64-k in
    let h = length_signed (to_z w64 (of_z w64 c.args.n)) (to_z_fit (of_z w64 c.args.n)) in
    omega (arith, ap length (text_first p.ensures h), h)

pub returns : goal.returns
returns c =
    let h = length_signed (to_z w64 (of_z w64 c.args.n)) (to_z_fit (of_z w64 c.args.n)) in
    let t = text_first c.put_i64-k.ensures h in
    adds_as (ap (right_of c.args.width) (t ∙ ap signed_text (to_z-of_z c.ranges.n))) c.put_right.ensures
