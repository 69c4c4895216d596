use Prim.Native.Nat.{◌+◌}
use mir.Syntax.{w64}
use mir.Val.{of_z}
use Rattle.span.specs.Span.{span}
use Rattle.span.proofs.Walks.{absorb_some}
use Rattle.key.specs.Rank.{rank}
use Rattle.two_sets.specs.InnerKind.{wide}
use Rattle.key.proofs.Laws.{rank_back}
use Rattle.key.specs.Range.{kind_of}
use Rattle.range_list.proofs.Answering.{put_start}
use Rattle.two_sets.proofs.Kinded.{greater_rank, put_end}
use Rattle.two_sets.proofs.Writing.{going_room, going_last}
use Rattle.union.proofs.Steps.{still_open, going_on, open_last}
use Rattle.union.proofs.walk.write_from.Goals as goal

pub put-requires : goal.put-requires
put-requires c = going_room (kind_of c.args.kind) c.loop-here.invariant.1 (absorb_some _ _) c.requires.3

pub loop-here-preserved : goal.loop-here-preserved
loop-here-preserved c =
    let l = c.loop-here in
    let here = l.here in
    let s = c.requires in
    let w = c.put.ensures in
    let x = c.next-t.result in
    let t = c.next-t.ensures in
    let v = l.invariant.0 in
    let p = simp rank_back at c.meets-same.ensures in
    let q = simp rank_back at c.pick.ensures in
    let g = simp rank_back at (greater_rank here.end x.end c.max.ensures) in (
      simp rank_back (still_open c.args.kind s.0 s.1 v x t c.meets-same.result p q g),
      simp rank_back
          (going_on c.args.kind s.0 s.1 v x t c.meets-same.result p q g l.invariant.1
          (put_start l.out_starts here.at (of_z w64 here.start) w.0) (put_end c.args.kind l.out_ends here.at (of_z w64 here.end) w.1)),
    )

pub put-requires-2 : goal.put-requires-2
put-requires-2 c = going_room (kind_of c.args.kind) c.loop-here.invariant.1 (absorb_some _ _) c.requires.3

pub returns : goal.returns
returns c =
    let kind = c.args.kind in
    let l = c.loop-here in
    let here = l.here in
    let w = c.put-2.ensures in
    going_last (kind_of kind) l.invariant.1 (span (rank here.start) (wide kind + rank here.end) 0)
    (open_last kind c.requires.0 c.requires.1 c.loop-here-test.false l.invariant.0)
    (put_start l.out_starts here.at (of_z w64 here.start) w.0) (put_end kind l.out_ends here.at (of_z w64 here.end) w.1)
