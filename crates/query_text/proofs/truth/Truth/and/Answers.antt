use Rattle.query_text.proofs.Tables.{and_shows}
use Rattle.query_text.proofs.truth.Truth.and.Goals as goal

pub returns : goal.returns
returns c = and_shows c.args.self c.args.other
