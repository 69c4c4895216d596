use Rattle.key.specs.Range.{kind_of}
use Rattle.two_sets.proofs.Doors.{side}
use Rattle.set_total.proofs.Laws.{below, answers_over, answers_total}
use Rattle.set_total.proofs.total_unchecked.Goals as goal

pub full-requires : goal.full-requires
full-requires c = side (kind_of c.args.kind) c.requires

pub returns-then-full : goal.returns-then-full
returns-then-full c = answers_over c.args.kind c.requires (c.full.ensures.right c.if-full.true)

pub sum-requires : goal.sum-requires
sum-requires c = (side (kind_of c.args.kind) c.requires, below (c.full.ensures.wrong c.if-full.false))

pub returns : goal.returns
returns c = answers_total c.args.kind c.requires (below (c.full.ensures.wrong c.if-full.false)) c.sum.ensures
