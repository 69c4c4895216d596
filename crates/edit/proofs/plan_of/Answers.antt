use native.Mathlib.Omega.{arith}
use mir.Facts.{to_z-of_z}
use borrow.Author.Rules.{rules}
use mir.Syntax.{w64}
use mir.Val.{SFits}
use Rattle.key.specs.Range.{kind_of}
use Rattle.key.proofs.Lawful.{lawful}
use Rattle.outcomes.specs.declared.Stored.{Stored}
use Rattle.edit.proofs.Places.{stand}
use Rattle.edit.proofs.Planning.{planned_alone, planned_over}
use Rattle.edit.proofs.plan_of.Goals as goal

pub touched-met-requires : goal.touched-met-requires
touched-met-requires c = c.requires

pub plan_over-requires : goal.plan_over-requires
plan_over-requires c =
    let g = c.args in
    let lent_map : Stored = g.m.now in
    let held = stand (kind_of c.args.kind) (lawful c.args.kind) lent_map c.requires.0 c.touched-met.ensures.touching in
    (c.if-met.true, held.0, held.1, held.2)

pub returns-then-met : goal.returns-then-met
returns-then-met c =
    let g = c.args in
    let lent_map : Stored = g.m.now in
    let fs : SFits w64 c.args.change.start = search rules in
    let fe : SFits w64 c.args.change.end = search rules in
    planned_over (kind_of g.kind) (lawful g.kind) lent_map c.requires.0 g.change c.requires.1 fs fe
    c.touched-met.ensures c.plan_over.result c.if-met.true c.plan_over.ensures

pub returns : goal.returns
returns c =
    let g = c.args in
    let lent_map : Stored = g.m.now in
    let fs : SFits w64 c.args.change.start = search rules in
    let fe : SFits w64 c.args.change.end = search rules in
    let t = c.touched-met.ensures in
    planned_alone (kind_of g.kind) (lawful g.kind) lent_map c.requires.0 g.change c.requires.1 fs fe
    t c.bring.result (omega (arith, t.touching.ascending, c.if-met.false)) (simp (c.placed-new.ensures, to_z-of_z fs, to_z-of_z fe) at c.bring.ensures)
