use native.Mathlib.Omega.{arith}
use mathlib.Core.Path.{ap}
use mir.Facts.{to_z-of_z}
use Rattle.key.specs.Rank.{bit_rank}
use Rattle.key.proofs.Laws.{rank_back, rank_least, above_least_lem}
use Rattle.key.proofs.Lawful.{lawful}
use Rattle.edit.proofs.Cuts.{cut_left, least_end}
use Rattle.edit.proofs.sides.least_end.Goals as goal

pub returns-then-start-eq-LEAST : goal.returns-then-start-eq-LEAST
returns-then-start-eq-LEAST c =
    let z = ap bit_rank c.if-start-eq-LEAST.true in
    let f = c.ranges.start in
    rw (to_z-of_z f) (record {
      short = λ e h. absurd (omega (arith, z, rank_least));
      reaches = λ e h. omega (arith, z, rank_least);
      cuts = λ h. absurd (omega (arith, z, rank_least));
      fits = f;
    })

pub end_before-requires : goal.end_before-requires
end_before-requires c = simp rank_back (above_least_lem c.ranges.start c.if-start-eq-LEAST.false)

pub returns : goal.returns
returns c =
    let law = lawful c.args.kind in
    let cut = cut_left law c.args.start (above_least_lem c.ranges.start c.if-start-eq-LEAST.false) (rw (to_z-of_z c.ranges.start) at c.end_before.ensures) in
    rw (to_z-of_z cut.1) (least_end law cut.0 cut.1)
