use native.Mathlib.Omega.{arith}
use Rattle.filling.proofs.Fills.{filling_none, filling_more, filling_done}
use Rattle.filling.proofs.fill.Goals as goal

pub loop-byte-init : goal.loop-byte-init
loop-byte-init c = filling_none _ _ _ _

pub loop-byte-preserved : goal.loop-byte-preserved
loop-byte-preserved c = filling_more (omega arith) c.loop-byte.invariant c.put_piece.ensures.piece c.put_piece.ensures.left

pub returns : goal.returns
returns c = filling_done (omega arith) c.loop-byte.invariant
