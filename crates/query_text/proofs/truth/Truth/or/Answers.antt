use Rattle.query_text.proofs.Tables.{or_shows}
use Rattle.query_text.proofs.truth.Truth.or.Goals as goal

pub returns : goal.returns
returns c = or_shows c.args.self c.args.other
