use Prim.Native.Nat.{◌-◌, ◌^◌}
use native.Mathlib.Omega.{arith}
use mathlib.Core.Path.{ap}
use lib.IntN.{pos}
use mir.Syntax.{w64}
use mir.Val.{of_z}
use mir.Facts.{to_z-of_z}
use Rattle.key.specs.Rank.{bit_rank}
use Rattle.key.proofs.Laws.{rank_back, rank_below, rank_greatest, below_greatest, to_z_fit}
use Rattle.key.proofs.Lawful.{lawful}
use Rattle.edit.proofs.Cuts.{cut_right, greatest_start}
use Rattle.edit.proofs.sides.greatest_start.Goals as goal

pub returns-then-end-eq-GREATEST : goal.returns-then-end-eq-GREATEST
returns-then-end-eq-GREATEST c =
    let f = c.ranges.end in
    let z = ap bit_rank c.if-end-eq-GREATEST.true in
    let u = (lawful c.args.kind).up_to c.args.end in
    rw (to_z-of_z f) (record {
      begins = λ k h. omega arith;
      off = λ k h. absurd (omega (arith, z, rank_greatest, rank_below (of_z w64 k)));
      cuts = λ h. omega (arith, z, rank_greatest);
      fits = f;
    })

pub after-requires : goal.after-requires
after-requires c =
    let f = c.ranges.end in
    let h = below_greatest f c.if-end-eq-GREATEST.false in
    rw (to_z-of_z f) (cut_right (lawful c.args.kind) c.args.end (pos (2 ^ 63 - 1)) (omega (arith, rank_greatest, h)))

pub returns : goal.returns
returns c =
    greatest_start (lawful c.args.kind) (simp rank_back (rw (to_z-of_z c.ranges.end) at c.after.ensures)) (to_z_fit (of_z w64 c.after.result))
