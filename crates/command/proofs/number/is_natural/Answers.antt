use mathlib.Core.Path.{sym, ◌∙◌}
use Rattle.command.proofs.Digits.{all_digits}
use Rattle.command.proofs.number.is_natural.Goals as goal

pub returns-then-is_plain : goal.returns-then-is_plain
returns-then-is_plain c = rw (sym c.is_plain.ensures ∙ c.if-is_plain.true) (c.are_digits.ensures ∙ all_digits c.args.text.now)
