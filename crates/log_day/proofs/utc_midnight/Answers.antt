use native.Mathlib.Omega.{arith}
use mir.Syntax.{w64}
use mir.Facts.{to_z_pos}
use Rattle.log_day.proofs.utc_midnight.Goals as goal

pub overflow_mul-result : goal.overflow_mul-result
overflow_mul-result c = rw (c.from.ensures, to_z_pos w64 {n = c.args.n.0} (omega arith)) (record { sfits = omega arith })
