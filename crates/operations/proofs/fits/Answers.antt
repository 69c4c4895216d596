use native.Mathlib.Omega.{arith}
use Rattle.key.proofs.Answers.{holds}
use Rattle.operations.proofs.Doors.{most}
use Rattle.operations.proofs.fits.Goals as goal

pub returns-then-roomy : goal.returns-then-roomy
returns-then-roomy c =
    rw c.if-roomy.true
    (holds (omega (arith, most c.args.operation c.args.kind c.requires.0 c.requires.1, c.roomy.ensures.right c.if-roomy.true)))
