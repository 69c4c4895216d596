use native.Mathlib.Omega.{arith}
use mir.Facts.{to_z-of_z}
use borrow.Author.Rules.{sfits_of}
use Rattle.lookup.proofs.Returns.{placed_at, placed_none}
use Rattle.lookup.proofs.range_at.Goals as goal

pub returns-then-place-m : goal.returns-then-place-m
returns-then-place-m c = placed_none _ _ (omega arith)

pub returns : goal.returns
returns c = rw (to_z-of_z (sfits_of c.result-1.given), to_z-of_z (sfits_of c.result-2-1.given)) (placed_at _ _ (omega arith))
