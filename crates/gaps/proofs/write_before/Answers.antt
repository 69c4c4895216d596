use native.Mathlib.Omega.{arith}
use mir.Facts.{to_z-of_z}
use Rattle.key.specs.Rank.{rank}
use Rattle.key.specs.Range.{kind_of}
use Rattle.key.proofs.Laws.{tests, rank_back}
use Rattle.key.proofs.Lawful.{lawful}
use Rattle.gaps.proofs.Steps.{set_start, set_before, gap_room, wrote_gap, wrote_none}
use Rattle.gaps.proofs.write_before.Goals as goal

pub end_before-requires : goal.end_before-requires
end_before-requires c = simp rank_back (omega (arith, tests))

pub put-requires : goal.put-requires
put-requires c = gap_room c.args.n (rank c.args.cursor) (rank c.args.next) (omega (arith, tests)) c.requires

pub returns-then-cursor-next : goal.returns-then-cursor-next
returns-then-cursor-next c =
    let a = c.args in
    let w = c.put.ensures in
    let e = rw (to_z-of_z c.ranges.next) at c.end_before.ensures in
    wrote_gap (kind_of a.kind) a.n (rank a.cursor) (rank a.next) a.out_starts.now a.out_ends.now (omega (arith, tests))
    (set_start a.out_starts.now a.n c.ranges.cursor (rw (to_z-of_z c.ranges.cursor) at w.0))
    (set_before a.out_ends.now a.n (lawful a.kind) a.next (omega (arith, tests)) e w.1)

pub returns : goal.returns
returns c =
    let a = c.args in
    wrote_none (kind_of a.kind) a.n (rank a.cursor) (rank a.next) a.out_starts.now a.out_ends.now (omega (arith, tests))
