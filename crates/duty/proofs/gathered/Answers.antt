use Rattle.duty.proofs.Walking.{gathering_is}
use Rattle.duty.proofs.gathered.Goals as goal

pub returns : goal.returns
returns c = gathering_is _
