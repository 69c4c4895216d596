use native.Mathlib.Omega.{arith}
use Rattle.std.proofs.Common.{rules}
use Rattle.byte_io.proofs.Reading.{zeros}
use Rattle.byte_io.proofs.read.clear_rest.Goals as goal

pub returns : goal.returns
returns c = record {
  starts = zeros _ _ _ (omega arith) (omega arith) (c.fill.ensures.after (search rules));
  ends = zeros _ _ _ (omega arith) (omega arith) (c.fill-2.ensures.after (search rules));
  values = zeros _ _ _ (omega arith) (omega arith) (c.fill-3.ensures.after (search rules));
}
