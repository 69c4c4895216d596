use native.Mathlib.Omega.{arith}
use mathlib.Core.Path.{sym, ◌∙◌}
use Rattle.outcomes.specs.Stored.{places}
use Rattle.outcomes.proofs.Formed.{Shaped}
use Rattle.key.proofs.Answers.{never}
use Rattle.store.proofs.Zeros.{all_unused}
use Rattle.store.proofs.check.unused.Goals as goal
use Rattle.store.proofs.check.unused.Goals.{then-zeros, else-zeros}

pub returns-then-zeros-2-clause-decides : goal.returns-then-zeros-2-clause-decides
returns-then-zeros-2-clause-decides c =
    let shape : Shaped places c.args.m.now = record { starts = omega arith; ends = omega arith; values = omega arith } in
    elim c.if-zeros.branch [
      | then-zeros w ↦
          let starts = c.zeros.ensures.right w.if-zeros.true in
          let ends = w.zeros-then-zeros.ensures.right (sym w.value-is ∙ c.if-zeros-2.true) in
          all_unused shape (omega arith) _ (omega arith) starts ends _ c.plain.ensures
      | else-zeros w ↦ never (sym w.if-zeros.false ∙ sym w.value-is ∙ c.if-zeros-2.true)
    ]
