use native.Mathlib.Omega.{arith}
use mathlib.Core.Path.{sym}
use Rattle.decimal.proofs.Steps.{plain_empty, plain_one, plain_longer}
use Rattle.decimal.proofs.is_plain.Goals as goal

pub returns-in-empty : goal.returns-in-empty
returns-in-empty c = sym (plain_empty _ (omega arith))

pub returns-in-len1 : goal.returns-in-len1
returns-in-len1 c = sym (plain_one _ (omega arith))

pub returns-in-len1-up : goal.returns-in-len1-up
returns-in-len1-up c = sym (plain_longer _ (omega arith))
