use native.Mathlib.Omega.{arith}
use mathlib.Core.Path.{refl}
use Rattle.filling.proofs.Laws.{in_room, then_within, as_within}
use Rattle.report_text.proofs.Columns.{key_within}
use Rattle.report_text.specs.ReportText.{key_line}
use Rattle.report_text.proofs.put_key_line.Goals as goal

pub put_byte-requires : goal.put_byte-requires
put_byte-requires c = let a = key_within (omega arith) c.ranges.key c.put_i64_right-to.ensures in omega arith

pub returns : goal.returns
unfolding key_line
returns c =
    let a = key_within (omega arith) c.ranges.key c.put_i64_right-to.ensures in
    as_within refl (omega arith) (then_within (then_within c.put_name_column-number.ensures a) (in_room {room = 1} (omega arith) c.put_byte.ensures))
