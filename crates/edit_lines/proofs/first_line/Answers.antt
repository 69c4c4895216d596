use Prim.Native.Nat.{◌<◌}
use native.Mathlib.Omega.{arith}
use mathlib.Core.Path.{sym, ◌∙◌}
use borrow.Author.Tests.{eqb-true, eqb-false}
use lib.ListN.{length, length-take, length-drop}
use Rattle.edit_lines.proofs.Cutting.{place_some, a_line, only_line, no_text}
use Rattle.edit_lines.proofs.first_line.Goals as goal

pub returns-then-is_empty : goal.returns-then-is_empty
returns-then-is_empty c = no_text c.args.text.now (eqb-true (length c.args.text.now) 0 (sym c.is_empty.ensures ∙ c.if-is_empty.true))

pub returns-in-Some : goal.returns-in-Some
returns-in-Some c =
    let text = c.args.text.now in
    let found = sym c.place_of.ensures ∙ c.in-Some.is in
    let at = place_some 10 text c.in-Some.end found in
    (a_line text found, simp (length-take, length-drop) (omega (arith, at.1)))

pub returns-in-None : goal.returns-in-None
returns-in-None c =
    let text = c.args.text.now in
    let some : 0 < length text = let n = eqb-false (length text) 0 (sym c.is_empty.ensures ∙ c.if-is_empty.false) in omega (arith, n) in
    (only_line text some (sym c.place_of.ensures ∙ c.in-None.is), some)
