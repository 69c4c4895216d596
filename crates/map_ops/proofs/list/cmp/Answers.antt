use mathlib.Core.Path.{sym, ap, ◌∙◌}
use borrow.Author.Rules.{rules}
use Rattle.key.specs.Range.{kind_of}
use Rattle.outcomes.specs.Stored.{Sound}
use Rattle.outcomes.specs.Outcomes.{order, compared_by}
use Rattle.compare.proofs.Laws.{either_order}
use Rattle.map_ops.proofs.Columns.{even}
use Rattle.map_ops.proofs.list.cmp.Goals as goal

pub returns-in_err-checked : goal.returns-in_err-checked
unfolding order
returns-in_err-checked c = search rules

pub returns-in_err-checked-2 : goal.returns-in_err-checked-2
unfolding order
returns-in_err-checked-2 c = search rules

pub compare-requires-clause-count_in_bounds : goal.compare-requires-clause-count_in_bounds
compare-requires-clause-count_in_bounds c =
    let sound : Sound (kind_of c.args.kind) c.args.m.now = search rules in
    even (kind_of c.args.kind) c.args.m.now c.lent.result c.lent.ensures sound

pub compare-requires-clause-count2_in_bounds : goal.compare-requires-clause-count2_in_bounds
compare-requires-clause-count2_in_bounds c =
    let sound : Sound (kind_of c.args.kind) c.args.other.now = search rules in
    even (kind_of c.args.kind) c.args.other.now c.lent-2.result c.lent-2.ensures sound

pub returns : goal.returns
unfolding order
returns c = search (rules, rw (c.lent.ensures, c.lent-2.ensures) at c.compare.ensures ∙ ap compared_by (sym (either_order c.args.kind c.args.m.now c.args.other.now)))
