use native.Mathlib.Omega.{arith}
use mathlib.Core.Path.{◌≡◌, refl}
use Rattle.text.proofs.Laws.{adds_none}
use Rattle.filling.proofs.Laws.{as_within}
use Rattle.edit_lines.specs.Making.{told_text}
use Rattle.edit_lines.specs.declared.NotMade.{NotMade}
use Rattle.edit_lines.proofs.said.told_text.Goals as goal

pub returns-in-Ok : goal.returns-in-Ok
unfolding told_text
returns-in-Ok c = rw c.in-Ok.is (record { adds = adds_none _ _; within = omega arith })

pub returns-in-Err-Refused : goal.returns-in-Err-Refused
unfolding told_text
returns-in-Err-Refused c =
    let e = c.in-Err-Refused in
    let why : e.field-0 ≡ NotMade.Refused e.n e.answer = rw e.is at e.field-0-is in
    rw (e.is, why) (as_within refl (omega arith) (rw c.from.ensures at c.fill.ensures))

pub returns-in-Err-NotAnEdit : goal.returns-in-Err-NotAnEdit
unfolding told_text
returns-in-Err-NotAnEdit c =
    let e = c.in-Err-NotAnEdit in
    let why : e.field-0 ≡ NotMade.NotAnEdit e.n = rw e.is at e.field-0-is in
    rw (e.is, why) (as_within refl (omega arith) c.fill-in-Err-NotAnEdit.ensures)
