use native.Mathlib.Omega.{arith}
use mathlib.Core.Path.{◌≡◌, ap}
use mathlib.Core.List.{List, [], ◌∷◌}
use mir.Syntax.{w64}
use mir.Val.{of_z}
use Rattle.span.specs.Span.{Span}
use Rattle.key.specs.Rank.{rank}
use Rattle.key.specs.Range.{kind_of}
use Rattle.key.proofs.Laws.{rank_back}
use Rattle.outcomes.specs.Lent.{of_ref}
use Rattle.range_list.proofs.Answering.{put_start}
use Rattle.two_sets.proofs.Kinded.{put_end}
use Rattle.two_sets.proofs.Writing.{going_last}
use Rattle.two_sets.proofs.Columns.{one_goes}
use Rattle.intersection.specs.InnerFound.{open_span, shared_from}
use Rattle.intersection.proofs.Steps.{found_none, found_no, going_found}
use Rattle.intersection.proofs.walk.write_rest.Goals as goal
use Rattle.intersection.proofs.walk.write_rest.Goals.{then-loop-here-test+else-here-b, else-loop-here-test}

pub loop-here-smaller : goal.loop-here-smaller
loop-here-smaller c = let one = one_goes c.step-s.result.left in omega (arith, one)

pub loop-here-preserved : goal.loop-here-preserved
loop-here-preserved c =
    let one = one_goes c.step-s.result.left in
    let p = c.requires in
    let l = c.loop-here in
    let w = c.put.ensures in
    record {
      in_a = omega (arith, one);
      in_b = omega (arith, one);
      going = simp rank_back
          (going_found c.args.kind p.side_a p.side_b c.loop-here-test.true c.if-here-b.true c.step-s.ensures
          (rank l.here.start) (rank l.here.end) _ _ l.invariant.going
          (simp rank_back at c.pick.ensures) (simp rank_back at c.pick-in-loop-here.ensures)
          (put_start l.out_starts l.here.at (of_z w64 l.here.start) w.0) (put_end c.args.kind l.out_ends l.here.at (of_z w64 l.here.end) w.1));
    }

-- a set is at its end, so the open range is the last
pub returns : goal.returns
returns c =
    let kind = c.args.kind in
    let p = c.requires in
    let l = c.loop-here in
    let here = l.here in
    let none_left : shared_from kind (of_ref c.args.a.now) here.i (of_ref c.args.b.now) here.j ≡ [] =
    elim c.loop-here-test.branch [
      | then-loop-here-test+else-here-b w ↦ found_no kind p.side_a p.side_b here.i here.j w.if-here-b.false
      | else-loop-here-test w ↦ found_none kind p.side_a p.side_b here.i here.j w.loop-here-test.false
    ] in
    let x = open_span kind here.start here.end in
    let w = c.put-2.ensures in
    going_last (kind_of kind) l.invariant.going x (ap (λ (m : List Span). x ∷ m) none_left)
    (put_start l.out_starts here.at (of_z w64 here.start) w.0) (put_end kind l.out_ends here.at (of_z w64 here.end) w.1)
