use mathlib.Core.Path.{sym, ◌∙◌}
use Rattle.edit_lines.proofs.Cutting.{no_space, a_space}
use Rattle.edit_lines.proofs.words.first_word.Goals as goal

pub returns-in_err-place : goal.returns-in_err-place
returns-in_err-place c = rw c.from_residual.ensures (no_space c.args.text.now (sym c.place_of.ensures ∙ c.in_err-place.was))

pub returns : goal.returns
returns c = a_space c.args.text.now (sym c.place_of.ensures ∙ c.in_ok-place.was)
