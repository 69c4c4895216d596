use native.Mathlib.Omega.{arith}
use mathlib.Core.Path.{sym, ap, ◌∙◌}
use Rattle.query_text.proofs.Bytes.{seen}
use Rattle.query_text.specs.declared.cursor.Cursor.{Cursor}
use Rattle.query_text.proofs.Atoms.{atom_first, atom_second, no_atom}
use Rattle.query_text.proofs.reader.atom.Goals as goal

pub holding-requires : goal.holding-requires
holding-requires c =
    let h = seen c.args.bytes.now c.args.c.at 65 (sym c.sees.ensures ∙ c.if-sees.true) in
    let e = ap (λ (y : Cursor). y.at) c.next.ensures in
    omega arith

pub returns-then-sees : goal.returns-then-sees
returns-then-sees c =
    atom_first c.args.bytes.now c.args.c c.next.result c.holding.result (sym c.sees.ensures ∙ c.if-sees.true) c.next.ensures
    c.holding.ensures

pub holding-requires-then-sees-2 : goal.holding-requires-then-sees-2
holding-requires-then-sees-2 c =
    let h = seen c.args.bytes.now c.args.c.at 66 (sym c.sees-2.ensures ∙ c.if-sees-2.true) in
    let e = ap (λ (y : Cursor). y.at) c.next-then-sees-2.ensures in
    omega arith

pub returns-then-sees-2 : goal.returns-then-sees-2
returns-then-sees-2 c =
    atom_second c.args.bytes.now c.args.c c.next-then-sees-2.result c.holding-then-sees-2.result (sym c.sees.ensures ∙ c.if-sees.false)
    (sym c.sees-2.ensures ∙ c.if-sees-2.true) c.next-then-sees-2.ensures c.holding-then-sees-2.ensures

pub returns : goal.returns
returns c =
    no_atom c.args.bytes.now c.args.c (sym c.sees.ensures ∙ c.if-sees.false) (sym c.sees-2.ensures ∙ c.if-sees-2.false)
