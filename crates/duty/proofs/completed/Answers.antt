use Rattle.duty.proofs.Walking.{completing_is}
use Rattle.duty.proofs.completed.Goals as goal

pub returns : goal.returns
returns c = completing_is _ _
