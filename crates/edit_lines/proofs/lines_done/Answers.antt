use native.Mathlib.Omega.{arith}
use mathlib.Core.Path.{refl, sym, ◌∙◌}
use Rattle.std.proofs.lemmas.Result.{err_from_is_err_and}
use Rattle.edit_lines.proofs.Lines.{line_ends, line_again, no_line}
use Rattle.edit_lines.proofs.lines_done.Goals as goal

pub loop-line-init : goal.loop-line-init
loop-line-init c = (omega arith, refl)

pub loop-line-preserved : goal.loop-line-preserved
loop-line-preserved c =
    let l = c.loop-line in
    let cut = rw c.in-Some.is at c.first_line.ensures in
    let done = rw c.in_ok-line_done.was at c.line_done.ensures in
    (omega (arith, l.invariant.0, cut.1), l.invariant.1 ∙ line_again l.rest.now _ _ l.n _ cut.0 done)

pub returns-in_err-line_done : goal.returns-in_err-line_done
returns-in_err-line_done c =
    let l = c.loop-line in
    let cut = rw c.in-Some.is at c.first_line.ensures in
    let ended = rw c.in_err-line_done.was at c.line_done.ensures in
    let p = err_from_is_err_and c.from_residual.result c.from_residual.ensures.1 in
    rw (p.1, p.2) (line_ends l.rest.now _ _ l.n _ cut.0 _ ended ∙ sym l.invariant.1)

pub returns : goal.returns
returns c = let l = c.loop-line in sym (l.invariant.1 ∙ no_line l.rest.now l.n _ c.in_default.ensures)
