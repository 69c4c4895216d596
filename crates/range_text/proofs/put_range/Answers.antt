use native.Mathlib.Omega.{arith}
use mathlib.Core.Path.{refl}
use Rattle.filling.proofs.Laws.{in_room, then_within, as_within}
use Rattle.range_text.specs.RangeText.{range_text}
use Rattle.range_text.proofs.Laws.{signed_within}
use Rattle.range_text.proofs.put_range.Goals as goal

pub put-to-requires : goal.put-to-requires
put-to-requires c = let a = signed_within c.ranges.start c.put_i64-dots.ensures in omega arith

pub put_i64-requires : goal.put_i64-requires
put_i64-requires c = let a = signed_within c.ranges.start c.put_i64-dots.ensures in omega (arith, c.put-to.ensures.upto)

pub returns : goal.returns
unfolding range_text
returns c =
    let a = signed_within c.ranges.start c.put_i64-dots.ensures in
    let b = signed_within c.ranges.end c.put_i64.ensures in
    as_within refl (omega arith) (then_within (then_within a (in_room {room = 2} (omega arith) c.put-to.ensures)) b)
