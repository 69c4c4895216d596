use mathlib.Core.Path.{ap, ◌∙◌}
use Rattle.key.specs.Range.{kind_of}
use Rattle.outcomes.specs.Numbers.{equal_of}
use Rattle.outcomes.proofs.Equal.{equal_ordering}
use Rattle.map_ops.proofs.list.eq.Goals as goal

pub returns : goal.returns
returns c = c.equal_of.ensures ∙ ap equal_of c.cmp.ensures ∙ equal_ordering (kind_of c.args.kind) c.args.m.now c.args.other.now
