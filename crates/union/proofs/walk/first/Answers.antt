use mathlib.Core.Path.{refl}
use Rattle.key.proofs.Laws.{rank_back}
use Rattle.union.proofs.Steps.{first_open}
use Rattle.union.proofs.walk.first.Goals as goal

pub returns : goal.returns
returns c =
    let f = first_open c.args.kind c.requires.0 c.requires.1 c.next-t.result c.next-t.ensures in
    record {
      taken = c.next-t.result;
      next = c.next-t.ensures;
      in_left = refl;
      in_right = refl;
      start = rank_back _;
      end = rank_back _;
      none_yet = refl;
      all = simp rank_back f.0;
      opened = simp rank_back f.1;
    }
