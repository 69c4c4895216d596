use Prim.Native.Nat.{◌*◌}
use native.Mathlib.Omega.{arith}
use mir.Val.{of_z}
use mir.Syntax.{w64}
use mir.Facts.{to_z_pos}
use Rattle.key.proofs.Laws.{rank_back}
use Rattle.graph_text.proofs.Quarters.{further_fits, rank_further}
use Rattle.graph_text.proofs.quarter_start.Goals as goal

pub overflow_add-result : goal.overflow_add-result
overflow_add-result c = let q = c.args.q in rw (to_z_pos w64 {n = 900 * q} (omega arith)) (further_fits (of_z w64 c.args.start) (900 * q) c.requires.1)

pub returns : goal.returns
returns c = let q = c.args.q in rw (to_z_pos w64 {n = 900 * q} (omega arith), rank_back) (rank_further (of_z w64 c.args.start) (900 * q) c.requires.1)
