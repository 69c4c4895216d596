use mathlib.Core.Path.{◌∙◌}
use Rattle.command.proofs.Digits.{a_minus, no_minus, told_other, and_no, and_true}
use Rattle.command.proofs.number.is_decimal.Goals as goal

pub returns-then-ne : goal.returns-then-ne
returns-then-ne c =
    let behind = c.in-Some.ensures.cases in
    let other = told_other c.in-Some.rest.now c.as_slice.ensures c.ne.ensures ∙ c.if-ne.true in
    rw (a_minus c.args.text.now behind.0 behind.1, other, and_true) c.is_natural.ensures

pub returns-else-ne : goal.returns-else-ne
returns-else-ne c =
    let behind = c.in-Some.ensures.cases in
    let same = told_other c.in-Some.rest.now c.as_slice.ensures c.ne.ensures ∙ c.if-ne.false in
    rw (a_minus c.args.text.now behind.0 behind.1, same, and_no) c.if-ne.false

pub returns-in-None : goal.returns-in-None
returns-in-None c = rw (no_minus c.args.text.now c.in-None.ensures.cases) c.is_natural-in-None.ensures
