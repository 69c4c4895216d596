use mathlib.Core.Path.{sym, ◌∙◌}
use borrow.Author.Rules.{rules}
use borrow.Author.Tests.{lt-ltb}
use Rattle.edit_lines.specs.Making.{insert_word}
use Rattle.edit_lines.proofs.Cutting.{is_word, no_word, a_byte}
use Rattle.edit_lines.proofs.words.insert_of.Goals as goal

pub returns-then-ne : goal.returns-then-ne
returns-then-ne c = rw (no_word c.args.word.now insert_word (rw c.as_slice.ensures at c.ne.ensures) c.if-ne.true)

pub returns : goal.returns
returns c =
    let word = is_word c.args.word.now insert_word (rw c.as_slice.ensures at c.ne.ensures) c.if-ne.false in
    let start = sym c.read_i64.ensures ∙ c.in_ok-s.was in
    let end = sym c.read_i64-2.ensures ∙ c.in_ok-e.was in
    let value = sym c.read_u64.ensures ∙ c.in_ok-v.was in
    let (fits, same) = a_byte c.try_from.result c.try_from.ensures c.in_ok-v-2.ensures.value in
    rw (word, start, end, value, lt-ltb _ _ fits, same) (search rules)
