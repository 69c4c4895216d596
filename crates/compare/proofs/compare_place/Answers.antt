use mathlib.Core.Path.{ap, ◌∙◌}
use Rattle.std.specs.Prelude.{Ok}
use Rattle.compare.proofs.Place.{one_order}
use Rattle.compare.proofs.compare_place.Goals as goal

pub returns : goal.returns
returns c = ap Ok c.cmp.ensures ∙ one_order _ _ _ _ _ _
