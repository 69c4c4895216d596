-- The four fields are those of `clear`.
use Rattle.std.proofs.Common.{refl}
use Rattle.outcomes.specs.Stored.{filled, storing}
use Rattle.outcomes.specs.Outcomes.{clear}
use Rattle.outcomes.proofs.Stored.new.Goals as goal

pub returns : goal.returns
unfolding clear storing filled
returns c = λ k. refl
