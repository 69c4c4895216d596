use Rattle.command.specs.Words.{refusal_text}
use Rattle.command.proofs.said.refusal_text.Goals as goal

pub returns : goal.returns
unfolding refusal_text
returns c = rw c.from.ensures at c.fill.ensures
