use Prim.Native.Nat.{◌-◌}
use native.Mathlib.Omega.{arith}
use mathlib.Core.Path.{◌≡◌}
use lib.IntN.{pos, ◌-ℤ◌}
use mir.Syntax.{w64}
use mir.Val.{SFits, to_z, of_z}
use mir.Facts.{to_z-of_z}
use Rattle.key.specs.Rank.{rank}
use Rattle.duty.proofs.Keys.{bits_difference, difference_fits}
use Rattle.duty.proofs.seconds.Goals as goal

pub overflow_sub-result : goal.overflow_sub-result
overflow_sub-result c = difference_fits _ _ c.requires.0 c.requires.1

pub overflow_cast-result : goal.overflow_cast-result
overflow_cast-result c =
    let is : to_z w64 (of_z w64 c.args.to) -ℤ to_z w64 (of_z w64 c.args.from) ≡ pos (rank c.args.to - rank c.args.from) =
    bits_difference (of_z w64 c.args.from) (of_z w64 c.args.to) c.requires.0 in
    let small : SFits w64 (pos (rank c.args.to - rank c.args.from)) =
    record { sfits = omega (arith, c.requires.1) } in
    rw (is, to_z-of_z small) (tt, record { fits = c.requires.1 })

pub returns : goal.returns
returns c =
    let is : to_z w64 (of_z w64 c.args.to) -ℤ to_z w64 (of_z w64 c.args.from) ≡ pos (rank c.args.to - rank c.args.from) =
    bits_difference (of_z w64 c.args.from) (of_z w64 c.args.to) c.requires.0 in
    let small : SFits w64 (pos (rank c.args.to - rank c.args.from)) =
    record { sfits = omega (arith, c.requires.1) } in
    rw (is, to_z-of_z small)
