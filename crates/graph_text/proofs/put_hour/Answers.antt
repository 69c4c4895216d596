use native.Mathlib.Omega.{arith}
use Rattle.graph_text.proofs.Hours.{hour_short, hour_spaces}
use Rattle.graph_text.proofs.put_hour.Goals as goal

pub overflow_sub-at : goal.overflow_sub-at
overflow_sub-at c = omega (arith, hour_short _ c.clock_hour.ensures.1, c.put_u64-to.ensures.upto)

pub put_spaces-requires : goal.put_spaces-requires
put_spaces-requires c = omega (arith, hour_short _ c.clock_hour.ensures.1, c.put_u64-to.ensures.upto)

pub returns : goal.returns
returns c = hour_spaces _ _ c.clock_hour.ensures.0 c.clock_hour.ensures.1 c.put_u64-to.ensures c.put_spaces.ensures
