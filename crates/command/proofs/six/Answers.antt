use mathlib.Core.Path.{◌∙◌}
use Rattle.command.proofs.Digits.{told_equal}
use Rattle.command.proofs.six.Goals as goal
use Rattle.command.proofs.six.Goals.{else-eq-2-via-then-eq-2+else-eq-3, else-eq-2-via-else-eq-2}

pub returns-then-eq : goal.returns-then-eq
returns-then-eq c = rw (told_equal c.args.word.now c.as_slice.ensures c.eq.ensures ∙ c.if-eq.true) c.query_in.ensures

pub returns-then-eq-3 : goal.returns-then-eq-3
returns-then-eq-3 c = rw (told_equal c.args.word.now c.as_slice.ensures c.eq.ensures ∙ c.if-eq.false, told_equal c.args.word.now c.as_slice-else-eq.ensures c.eq-else-eq.ensures ∙ c.if-eq-2.true, told_equal c.args.e.now c.as_slice-then-eq-2.ensures c.eq-then-eq-2.ensures ∙ c.if-eq-3.true) c.dated_by.ensures

pub returns-else-eq-2 : goal.returns-else-eq-2
returns-else-eq-2 c =
    elim c.else-eq-2.branch [
      | else-eq-2-via-then-eq-2+else-eq-3 w ↦
          rw (told_equal c.args.word.now c.as_slice.ensures c.eq.ensures ∙ c.if-eq.false, told_equal c.args.word.now c.as_slice-else-eq.ensures c.eq-else-eq.ensures ∙ w.if-eq-2.true, told_equal c.args.e.now w.as_slice-then-eq-2.ensures w.eq-then-eq-2.ensures ∙ w.if-eq-3.false)
      | else-eq-2-via-else-eq-2 w ↦ rw (told_equal c.args.word.now c.as_slice.ensures c.eq.ensures ∙ c.if-eq.false, told_equal c.args.word.now c.as_slice-else-eq.ensures c.eq-else-eq.ensures ∙ w.if-eq-2.false)
    ]
