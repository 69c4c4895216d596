use mathlib.Core.Path.{sym, ◌∙◌}
use Rattle.operations.proofs.Doors.{no_sets, both_sets}
use Rattle.operations.proofs.combine.Goals as goal

pub returns-then-not-are_sets : goal.returns-then-not-are_sets
returns-then-not-are_sets c =
    let a = c.args in
    no_sets _ _ _ a.out_starts.now a.out_ends.now a.operation (sym c.are_sets.ensures.value ∙ c.if-not-are_sets.true)

pub returns : goal.returns
returns c =
    let a = c.args in
    (rw (c.lent.ensures, c.lent-2.ensures) at c.combine_unchecked.ensures)
    ∙ both_sets _ _ _ a.out_starts.now a.out_ends.now a.operation (sym c.are_sets.ensures.value ∙ c.if-not-are_sets.false)
