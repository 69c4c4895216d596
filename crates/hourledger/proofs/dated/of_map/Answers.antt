-- The day that is reported can be drawn.
use mathlib.Core.Path.{sym, ◌∙◌}
use Rattle.graph_text.proofs.Days.{reported_day}
use Rattle.hourledger.proofs.dated.of_map.Goals as goal

pub show-requires : goal.show-requires
show-requires c =
    let a = c.args.asked in
    reported_day _ a.zone a.date.year a.date.month a.date.day c.requires (sym c.checked.ensures ∙ c.in-Ok.is)
