use mathlib.Core.Path.{sym, ◌∙◌}
use borrow.Author.Rules.{rules}
use Rattle.edit_lines.specs.Making.{remove_word}
use Rattle.edit_lines.proofs.Cutting.{is_word, no_word}
use Rattle.edit_lines.proofs.words.remove_of.Goals as goal

pub returns-then-ne : goal.returns-then-ne
returns-then-ne c = rw (no_word c.args.word.now remove_word (rw c.as_slice.ensures at c.ne.ensures) c.if-ne.true)

pub returns : goal.returns
returns c =
    let word = is_word c.args.word.now remove_word (rw c.as_slice.ensures at c.ne.ensures) c.if-ne.false in
    let start = sym c.read_i64.ensures ∙ c.in_ok-s.was in
    let end = sym c.read_i64-2.ensures ∙ c.in_ok-e.was in
    rw (word, start, end) (search rules)
