use native.Mathlib.Omega.{arith}
use Rattle.query_text.proofs.Tables.{not_shows}
use Rattle.query_text.proofs.truth.Truth.not.Goals as goal

pub returns : goal.returns
returns c = not_shows c.args.self (omega arith) (omega arith)
