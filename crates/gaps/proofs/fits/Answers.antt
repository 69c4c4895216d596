use native.Mathlib.Omega.{arith}
use borrow.Author.Tests.{lt-ltb}
use Rattle.key.specs.Rank.{rank}
use Rattle.key.specs.Range.{kind_of}
use Rattle.key.proofs.Answers.{holds}
use Rattle.gaps.proofs.Steps.{most}
use Rattle.gaps.proofs.fits.Goals as goal

pub returns-then-m-from : goal.returns-then-m-from
returns-then-m-from c =
    let a = c.args in
    rw (lt-ltb _ _ c.if-m-from.true) (holds (omega (arith, most (kind_of a.kind) c.requires.places (rank a.outer.start) ((kind_of a.kind).past a.outer.end))))
