use mathlib.Core.Path.{sym, ap}
use lib.ListN.{length}
use Rattle.union.proofs.Steps.{either_none}
use Rattle.union.proofs.counted.Goals as goal

pub returns-then-a-b-eq0 : goal.returns-then-a-b-eq0
returns-then-a-b-eq0 c = sym (ap length (either_none c.args.kind c.requires.0 c.requires.1 c.if-a-b-eq0.true))
