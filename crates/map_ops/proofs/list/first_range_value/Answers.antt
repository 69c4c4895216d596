use borrow.Author.Rules.{rules}
use Rattle.key.specs.Range.{kind_of}
use Rattle.outcomes.specs.Stored.{Sound}
use Rattle.map_ops.proofs.Columns.{within_each}
use Rattle.map_ops.proofs.list.first_range_value.Goals as goal

pub range_at-requires : goal.range_at-requires
range_at-requires c =
    let sound : Sound (kind_of c.args.kind) c.args.m.now = search rules in
    within_each (kind_of c.args.kind) c.args.m.now c.lent.result c.lent.ensures sound
