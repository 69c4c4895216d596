use Prim.Native.Nat.{◌-◌}
use native.Mathlib.Omega.{arith}
use mathlib.Core.Path.{◌≡◌, ap, ◌∙◌}
use lib.IntN.{pos, ◌-ℤ◌}
use mir.Syntax.{w64}
use mir.Val.{to_z, of_z}
use borrow.Author.Rules.{rules}
use Rattle.key.specs.Rank.{rank, key_at}
use Rattle.key.proofs.Laws.{prev_fits, rank_prev, key_bits}
use Rattle.key.proofs.end_before.Goals as goal

pub overflow_sub-result : goal.overflow_sub-result
overflow_sub-result c = let s = c in prev_fits (of_z w64 s.args.key) s.requires

pub returns-in-HalfOpen : goal.returns-in-HalfOpen
returns-in-HalfOpen c = rw c.in-HalfOpen.is (key_bits (of_z w64 c.args.key))

pub returns-in-Inclusive : goal.returns-in-Inclusive
returns-in-Inclusive c =
    let s = c in
    let b = of_z w64 s.args.key in
    let p : rank (to_z w64 b -ℤ pos 1) ≡ rank s.args.key - 1 = omega (arith, rank_prev b s.requires) in
    rw c.in-Inclusive.is (key_bits (of_z w64 (to_z w64 b -ℤ pos 1)) ∙ ap key_at p)
