use mir.Facts.{to_z-of_z}
use Rattle.key.specs.Rank.{rank}
use Rattle.key.proofs.Laws.{lt_z_rank}
use Rattle.gaps.proofs.Walk.{gap_test}
use Rattle.gaps.proofs.between.Goals as goal

pub returns : goal.returns
returns c =
    let r = c.ranges in
    rw (c.from.ensures, to_z-of_z r.cursor, to_z-of_z r.start, lt_z_rank _ _ r.cursor r.start) (gap_test (rank c.args.cursor) (rank c.args.start))
