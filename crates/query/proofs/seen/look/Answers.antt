use Rattle.key.proofs.Laws.{rank_back}
use Rattle.query.proofs.seen.look.Goals as goal

pub caught_up-here-requires : goal.caught_up-here-requires
caught_up-here-requires c = simp rank_back (c.requires.0, c.requires.1)

pub seen_at-requires : goal.seen_at-requires
seen_at-requires c = simp rank_back (c.requires.0, simp rank_back at c.caught_up-here.ensures, c.requires.2)

pub returns : goal.returns
returns c = simp rank_back at c.seen_at.ensures
