use mir.Val.{of_z}
use mir.Syntax.{w64}
use Rattle.two_sets.proofs.Kinded.{greater_rank, lesser_rank, lt_test}
use Rattle.intersection.proofs.walk.step_over.Goals as goal

pub returns : goal.returns
returns c =
    let a = c.args.a in
    let b = c.args.b in
    record {
      start = greater_rank a.start b.start c.max-start.ensures;
      end = lesser_rank a.end b.end c.min-end.ensures;
      met = c.meets.ensures;
      first = lt_test (of_z w64 a.end) (of_z w64 b.end);
    }
