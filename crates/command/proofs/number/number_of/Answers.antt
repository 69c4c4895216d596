use mathlib.Core.Path.{sym, ◌∙◌}
use Rattle.command.specs.Words.{number_of}
use Rattle.command.proofs.Digits.{any_other}
use Rattle.command.proofs.number.number_of.Goals as goal

pub returns-in-Some : goal.returns-in-Some
unfolding number_of
returns-in-Some c = rw (sym c.read_u64.ensures ∙ c.in-Some.is, c.min.ensures)

pub returns-in-None : goal.returns-in-None
unfolding number_of
returns-in-None c = rw (sym c.read_u64.ensures ∙ c.in-None.is, any_other c.args.most _, sym c.is_decimal.ensures) c.then_some.ensures
