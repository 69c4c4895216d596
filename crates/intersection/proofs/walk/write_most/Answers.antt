use native.Mathlib.Omega.{arith}
use mir.Syntax.{w64}
use mir.Val.{of_z}
use Rattle.key.specs.Rank.{rank}
use Rattle.key.proofs.Laws.{rank_back}
use Rattle.range_list.proofs.Answering.{put_start}
use Rattle.two_sets.proofs.Kinded.{put_end}
use Rattle.two_sets.proofs.Columns.{one_goes}
use Rattle.intersection.proofs.Steps.{going_found}
use Rattle.intersection.proofs.walk.write_most.Goals as goal

pub overflow_add-here-in-loop-here-2 : goal.overflow_add-here-in-loop-here-2
overflow_add-here-in-loop-here-2 c = let one = one_goes c.step_ahead-carried.result.step.left in omega (arith, one)

pub loop-here-smaller : goal.loop-here-smaller
loop-here-smaller c = let one = one_goes c.step_ahead-carried.result.step.left in omega (arith, one)

pub loop-here-preserved : goal.loop-here-preserved
loop-here-preserved c =
    let p = c.requires in
    let l = c.loop-here in
    let w = c.put.ensures in
    let e = c.step_ahead-carried.ensures in
    let one = one_goes c.step_ahead-carried.result.step.left in (
      λ _. simp rank_back e.ahead_a,
      λ _. simp rank_back e.ahead_b,
      record {
        in_a = omega (arith, one);
        in_b = omega (arith, one);
        going = simp rank_back
            (going_found c.args.kind p.side_a p.side_b (omega arith) (omega arith) e.step
            (rank l.here.start) (rank l.here.end) _ _ l.invariant.2.going
            (simp rank_back at c.pick.ensures) (simp rank_back at c.pick-in-loop-here.ensures)
            (put_start l.out_starts l.here.at (of_z w64 l.here.start) w.0) (put_end c.args.kind l.out_ends l.here.at (of_z w64 l.here.end) w.1));
      },
    )
