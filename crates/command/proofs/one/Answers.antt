use mathlib.Core.Path.{◌∙◌}
use Rattle.command.proofs.Digits.{told_equal}
use Rattle.command.proofs.one.Goals as goal

pub returns-then-eq : goal.returns-then-eq
returns-then-eq c = rw (told_equal c.args.word.now c.as_slice.ensures c.eq.ensures ∙ c.if-eq.true)

pub returns-then-eq-2 : goal.returns-then-eq-2
returns-then-eq-2 c = rw (told_equal c.args.word.now c.as_slice.ensures c.eq.ensures ∙ c.if-eq.false, told_equal c.args.word.now c.as_slice-else-eq.ensures c.eq-else-eq.ensures ∙ c.if-eq-2.true)

pub returns-then-eq-3 : goal.returns-then-eq-3
returns-then-eq-3 c = rw (told_equal c.args.word.now c.as_slice.ensures c.eq.ensures ∙ c.if-eq.false, told_equal c.args.word.now c.as_slice-else-eq.ensures c.eq-else-eq.ensures ∙ c.if-eq-2.false, told_equal c.args.word.now c.as_slice-else-eq-2.ensures c.eq-else-eq-2.ensures ∙ c.if-eq-3.true)

pub returns-else-eq-3 : goal.returns-else-eq-3
returns-else-eq-3 c = rw (told_equal c.args.word.now c.as_slice.ensures c.eq.ensures ∙ c.if-eq.false, told_equal c.args.word.now c.as_slice-else-eq.ensures c.eq-else-eq.ensures ∙ c.if-eq-2.false, told_equal c.args.word.now c.as_slice-else-eq-2.ensures c.eq-else-eq-2.ensures ∙ c.if-eq-3.false)
