use mathlib.Core.Path.{refl}
use Rattle.key.specs.Range.{kind_of}
use Rattle.two_sets.proofs.Writing.{none_written}
use Rattle.union.proofs.Steps.{either_none}
use Rattle.union.proofs.write.Goals as goal

pub returns-then-a-b-eq0 : goal.returns-then-a-b-eq0
returns-then-a-b-eq0 c =
    none_written (kind_of c.args.kind) refl refl refl (either_none c.args.kind c.requires.0 c.requires.1 c.if-a-b-eq0.true)
