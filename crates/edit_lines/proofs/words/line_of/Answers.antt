use Rattle.edit_lines.specs.Making.{line_of}
use Rattle.edit_lines.proofs.Cutting.{five_words}
use Rattle.edit_lines.proofs.words.line_of.Goals as goal

pub returns-in_err-word : goal.returns-in_err-word
unfolding line_of
returns-in_err-word c =
    let one = rw c.in_err-word.was at c.first_word.ensures in
    rw one c.from_residual.ensures

pub returns-in_err-start : goal.returns-in_err-start
unfolding line_of
returns-in_err-start c =
    let one = rw c.in_ok-word.was at c.first_word.ensures in
    let two = rw c.in_err-start.was at c.first_word-2.ensures in
    rw (one, two) c.from_residual-in_err-start.ensures

pub returns-in_default : goal.returns-in_default
unfolding line_of
returns-in_default c =
    let one = rw c.in_ok-word.was at c.first_word.ensures in
    let two = rw c.in_ok-start.was at c.first_word-2.ensures in
    let three = rw c.in_default.is at c.first_word-3.ensures in
    rw (one, two, three) c.remove_of.ensures

pub returns-in-None : goal.returns-in-None
unfolding line_of
returns-in-None c =
    let one = rw c.in_ok-word.was at c.first_word.ensures in
    let two = rw c.in_ok-start.was at c.first_word-2.ensures in
    let three = rw c.in-Some.is at c.first_word-3.ensures in
    let four = rw c.in-None.is at c.first_word-4.ensures in
    rw (one, two, three, four) c.insert_of.ensures

pub returns-in-Some-first_word : goal.returns-in-Some-first_word
unfolding line_of
returns-in-Some-first_word c =
    let one = rw c.in_ok-word.was at c.first_word.ensures in
    let two = rw c.in_ok-start.was at c.first_word-2.ensures in
    let three = rw c.in-Some.is at c.first_word-3.ensures in
    let four = rw c.in-Some-first_word.is at c.first_word-4.ensures in
    rw (one, two, three, four, five_words)
