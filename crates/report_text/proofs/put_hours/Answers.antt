use native.Mathlib.Omega.{arith}
use Rattle.filling.proofs.Laws.{in_room, then_within, as_within}
use Rattle.report_text.proofs.Columns.{number_within, digits_within, hours_right}
use Rattle.report_text.proofs.put_hours.Goals as goal

pub put_byte-decimals-requires : goal.put_byte-decimals-requires
put_byte-decimals-requires c = let a = number_within (omega arith) (omega (arith, c.ranges.n)) c.put_u64_right-point.ensures in omega arith

pub put_digits-requires : goal.put_digits-requires
put_digits-requires c = let a = number_within (omega arith) (omega (arith, c.ranges.n)) c.put_u64_right-point.ensures in omega (arith, c.put_byte-decimals.ensures.upto)

pub returns : goal.returns
returns c =
    let a = number_within (omega arith) (omega (arith, c.ranges.n)) c.put_u64_right-point.ensures in
    let b = rw c.ten_thousandths.ensures at c.put_digits.ensures in
    as_within (hours_right _) (omega arith) (then_within (then_within a (in_room {room = 1} (omega arith) c.put_byte-decimals.ensures)) (digits_within 4 _ b))
