use native.Mathlib.Omega.{arith}
use mathlib.Core.Path.{◌≡◌, ap, ◌∙◌}
use Prim.Native.Nat.{ℕ}
use lib.ListN.{length}
use mir.Facts.{to_z-of_z}
use borrow.Author.Rules.{rules}
use mir.Syntax.{w64}
use mir.Val.{SFits}
use Rattle.key.specs.InnerDecides.{Decides}
use Rattle.key.specs.Range.{kind_of}
use Rattle.key.proofs.Lawful.{lawful}
use Rattle.outcomes.specs.Stored.{places}
use Rattle.outcomes.specs.Outcomes.{edit_sound}
use Rattle.outcomes.proofs.Went.{leaves, numbered}
use Rattle.edit.specs.InnerPlan.{HasKey, asked}
use Rattle.edit.proofs.Places.{columns}
use Rattle.edit.proofs.Carried.{edit_refused, edit_carried}
use Rattle.edit.proofs.edit.Goals as goal

pub returns-then-not-full : goal.returns-then-not-full
returns-then-not-full c =
    let g = c.args in
    let fs : SFits w64 c.args.change.start = search rules in
    let fe : SFits w64 c.args.change.end = search rules in
    let says : Decides c.full.result (HasKey (kind_of c.args.kind) c.args.change) = rw (to_z-of_z fs, to_z-of_z fe) at c.full.ensures in
    leaves (edit_refused (kind_of g.kind) places g.m.now g.change.start g.change.end (asked g.change) (omega (arith, says.wrong c.if-not-full.true)))

pub plan_of-plan-requires : goal.plan_of-plan-requires
plan_of-plan-requires c =
    let fs : SFits w64 c.args.change.start = search rules in
    let fe : SFits w64 c.args.change.end = search rules in
    let says : Decides c.full.result (HasKey (kind_of c.args.kind) c.args.change) = rw (to_z-of_z fs, to_z-of_z fe) at c.full.ensures in
    (c.requires, says.right c.if-not-full.false)

pub carry_out-requires : goal.carry_out-requires
carry_out-requires c = (columns (kind_of c.args.kind) (lawful c.args.kind) c.args.m.now c.requires, c.plan_of-plan.ensures.apt)

pub returns : goal.returns
returns c =
    let g = c.args in
    let fs : SFits w64 c.args.change.start = search rules in
    let fe : SFits w64 c.args.change.end = search rules in
    let says : Decides c.full.result (HasKey (kind_of c.args.kind) c.args.change) = rw (to_z-of_z fs, to_z-of_z fe) at c.full.ensures in
    let has_key : HasKey (kind_of c.args.kind) c.args.change = says.right c.if-not-full.false in
    let n : length c.args.m.now.starts ≡ places = search rules in
    leaves (numbered c.carry_out.ensures
    ∙ edit_carried (kind_of g.kind) (lawful g.kind) g.m.now c.requires c.plan_of-plan.result has_key c.plan_of-plan.ensures
    ∙ ap (λ (k : ℕ). edit_sound (kind_of g.kind) k g.m.now g.change.start g.change.end (asked g.change)) n)
