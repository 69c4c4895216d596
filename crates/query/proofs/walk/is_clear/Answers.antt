use native.Mathlib.Omega.{arith}
use borrow.Author.Tests.{eqb-true}
use Rattle.query.proofs.Silence.{no_bit}
use Rattle.query.proofs.walk.is_clear.Goals as goal

pub returns : goal.returns
returns c e m le = no_bit c.args.word c.args.i 11 (eqb-true _ _ e) m (omega arith)
