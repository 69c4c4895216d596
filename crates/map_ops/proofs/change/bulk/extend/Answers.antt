use borrow.Author.Rules.{rules}
use Rattle.outcomes.specs.Outcomes.{bulk_insert}
use Rattle.map_ops.proofs.change.bulk.extend.Goals as goal

pub returns-in-Err : goal.returns-in-Err
unfolding bulk_insert
returns-in-Err c = search rules

pub returns : goal.returns
unfolding bulk_insert
returns c = search rules
