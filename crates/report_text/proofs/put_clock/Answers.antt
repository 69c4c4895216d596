use native.Mathlib.Omega.{arith}
use Rattle.filling.proofs.Laws.{then_within, as_within}
use Rattle.report_text.proofs.Columns.{number_within, clock_right}
use Rattle.report_text.proofs.put_clock.Goals as goal

pub put_pair-seconds-requires : goal.put_pair-seconds-requires
put_pair-seconds-requires c = let a = number_within c.requires.0 (omega (arith, c.ranges.n)) c.put_u64_right-minutes.ensures in omega arith

pub put_pair-requires : goal.put_pair-requires
put_pair-requires c = let a = number_within c.requires.0 (omega (arith, c.ranges.n)) c.put_u64_right-minutes.ensures in omega arith

pub returns : goal.returns
returns c =
    let a = number_within c.requires.0 (omega (arith, c.ranges.n)) c.put_u64_right-minutes.ensures in
    as_within (clock_right _ _) (omega arith) (then_within (then_within a c.put_pair-seconds.ensures) c.put_pair.ensures)
