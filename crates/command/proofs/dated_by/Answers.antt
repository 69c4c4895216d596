use mathlib.Core.Path.{sym, ◌∙◌}
use native.Mathlib.Omega.{arith}
use Rattle.command.proofs.Digits.{number_within}
use Rattle.command.proofs.dated_by.Goals as goal

pub overflow_cast-result : goal.overflow_cast-result
overflow_cast-result c =
    omega (arith, number_within 255 _ (sym c.number_of.ensures ∙ c.in-Some.is))

pub overflow_cast-result-2 : goal.overflow_cast-result-2
overflow_cast-result-2 c =
    omega (arith, number_within 65535 _ (sym c.number_of-2.ensures ∙ c.in-Some-number_of.is))

pub overflow_cast-result-3 : goal.overflow_cast-result-3
overflow_cast-result-3 c =
    omega (arith, number_within 255 _ (sym c.number_of-3.ensures ∙ c.in-Some-number_of-2.is))

pub overflow_cast-result-4 : goal.overflow_cast-result-4
overflow_cast-result-4 c =
    omega (arith, number_within 255 _ (sym c.number_of-4.ensures ∙ c.in-Some-number_of-3.is))
