use native.Mathlib.Omega.{arith}
use mathlib.Core.Path.{sym, ◌∙◌}
use mir.Facts.{to_z-of_z}
use Rattle.outcomes.proofs.Formed.{good}
use Rattle.lookup.proofs.Returns.{found_at, found_none}
use Rattle.lookup.proofs.get_key_value.Goals as goal

pub range_at-requires : goal.range_at-requires
range_at-requires c = omega (arith, (good c.requires).held, c.requires.ends_as, c.requires.values_as)

pub returns-in-Some : goal.returns-in-Some
returns-in-Some c = c.range_at.ensures ∙ found_at c.requires c.args.key (sym (rw (to_z-of_z c.ranges.key) at c.place_of.ensures) ∙ c.in-Some.is)

pub returns-in-None : goal.returns-in-None
returns-in-None c = found_none c.requires c.args.key (sym (rw (to_z-of_z c.ranges.key) at c.place_of.ensures) ∙ c.in-None.is)
