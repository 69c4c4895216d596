use mir.Syntax.{w64}
use mir.Val.{of_z}
use native.Mathlib.Omega.{arith}
use Rattle.key.proofs.Laws.{rank_back, next_fits, rank_next}
use Rattle.key.proofs.next.Goals as goal

pub overflow_add-result : goal.overflow_add-result
overflow_add-result c = next_fits (of_z w64 c.args.a) (omega arith)

pub returns : goal.returns
returns c = simp rank_back (rank_next (of_z w64 c.args.a) (omega arith))
