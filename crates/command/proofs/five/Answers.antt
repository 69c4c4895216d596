use mathlib.Core.Path.{◌∙◌}
use Rattle.command.proofs.Digits.{told_equal}
use Rattle.command.proofs.five.Goals as goal

pub returns-then-eq : goal.returns-then-eq
returns-then-eq c = rw (told_equal c.args.word.now c.as_slice.ensures c.eq.ensures ∙ c.if-eq.true) c.dated_by.ensures

pub returns-then-eq-2 : goal.returns-then-eq-2
returns-then-eq-2 c = rw (told_equal c.args.word.now c.as_slice.ensures c.eq.ensures ∙ c.if-eq.false, told_equal c.args.word.now c.as_slice-else-eq.ensures c.eq-else-eq.ensures ∙ c.if-eq-2.true) c.dated_by-then-eq-2.ensures

pub returns-else-eq-2 : goal.returns-else-eq-2
returns-else-eq-2 c = rw (told_equal c.args.word.now c.as_slice.ensures c.eq.ensures ∙ c.if-eq.false, told_equal c.args.word.now c.as_slice-else-eq.ensures c.eq-else-eq.ensures ∙ c.if-eq-2.false)
