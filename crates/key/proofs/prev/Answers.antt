use mir.Syntax.{w64}
use mir.Val.{of_z}
use Rattle.key.proofs.Laws.{rank_back, prev_fits, rank_prev}
use Rattle.key.proofs.prev.Goals as goal

pub overflow_sub-result : goal.overflow_sub-result
overflow_sub-result c = prev_fits (of_z w64 c.args.a) c.requires

pub returns : goal.returns
returns c = simp rank_back (rank_prev (of_z w64 c.args.a) c.requires)
