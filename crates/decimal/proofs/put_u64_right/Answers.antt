use native.Mathlib.Omega.{arith}
use mathlib.Core.Path.{sym, ap}
use lib.ListN.{length}
use lib.Seq.{length-take-le}
use Rattle.text.specs.Text.{right_of}
use Rattle.text.proofs.Laws.{adds_as, text_first, text_room_lem}
use Rattle.decimal.proofs.Digits.{length_u64}
use Rattle.decimal.proofs.put_u64_right.Goals as goal

pub slice_bounds-digits-end : goal.slice_bounds-digits-end
slice_bounds-digits-end c =
    let h = length_u64 c.args.n c.ranges.n.fits in
    text_room_lem c.put_u64-k.ensures h

pub slice_bounds-put_right-end : goal.slice_bounds-put_right-end
slice_bounds-put_right-end c =
    let h = length_u64 c.args.n c.ranges.n.fits in
    sym (length-take-le c.put_u64-k.result c.put_u64-k.new.out (text_room_lem c.put_u64-k.ensures h))

pub put_right-requires : goal.put_right-requires
put_right-requires c =
    let p = c.put_u64-k in
    let h = length_u64 c.args.n c.ranges.n.fits in
    omega (arith, ap length (text_first p.ensures h), h)

pub returns : goal.returns
returns c =
    let h = length_u64 c.args.n c.ranges.n.fits in
    adds_as (ap (right_of c.args.width) (text_first c.put_u64-k.ensures h)) c.put_right.ensures
