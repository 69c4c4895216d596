use Rattle.query_text.proofs.Tables.{first_shows, second_shows}
use Rattle.query_text.proofs.truth.Truth.atom.Goals as goal

pub returns-then-second : goal.returns-then-second
returns-then-second c = rw c.if-second.true (second_shows c.args.digit c.requires)

pub returns-else-second : goal.returns-else-second
returns-else-second c = rw c.if-second.false (first_shows c.args.digit c.requires)
