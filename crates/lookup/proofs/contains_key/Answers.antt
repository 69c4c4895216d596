use mathlib.Core.Path.{ap, ◌∙◌}
use mir.Facts.{to_z-of_z}
use Rattle.std.specs.Option.{is_some}
use Rattle.std.specs.Prelude.{Ok}
use Rattle.lookup.proofs.Returns.{contains_is}
use Rattle.lookup.proofs.contains_key.Goals as goal

pub returns : goal.returns
returns c = ap Ok (c.is_some.ensures ∙ ap is_some (rw (to_z-of_z c.ranges.key) at c.place_of.ensures)) ∙ contains_is c.requires c.args.key
