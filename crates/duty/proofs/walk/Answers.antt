use native.Mathlib.Omega.{arith}
use mathlib.Core.Path.{ap, ◌∙◌}
use Rattle.std.specs.Prelude.{Some}
use borrow.Author.Rules.{sfits_of}
use mir.Facts.{to_z-of_z}
use Rattle.key.specs.Range.{half_open}
use Rattle.key.proofs.Lawful.{half_open_lawful}
use Rattle.outcomes.proofs.Formed.{sound_held}
use Rattle.store.specs.InnerSearch.{FirstPast}
use Rattle.store.proofs.Seeking.{starts_searched}
use Rattle.std.specs.Prelude.{Some}
use Rattle.duty.proofs.Walking.{met, apart, table_room, table_is, strange_is}
use Rattle.duty.proofs.walk.Goals as goal

pub first_past-to-requires : goal.first_past-to-requires
first_past-to-requires c =
    let p = c.requires in
    let s = starts_searched p.0 half_open_lawful in
    (p.1.within, s.0, s.1)

pub statuses-requires : goal.statuses-requires
statuses-requires c =
    let a = c.args in
    let next : FirstPast half_open a.m.now.count a.m.now.starts.now a.from a.window.end c.first_past-to.result =
    rw (to_z-of_z (sfits_of c.struct_told-1.given.1.0.1)) at c.first_past-to.ensures in
    let p = c.requires in
    (omega (arith, next.from), omega (arith, next.within, sound_held half_open _ p.0, p.0.values_as))

pub returns-then-not-statuses : goal.returns-then-not-statuses
returns-then-not-statuses c =
    let a = c.args in
    let next : FirstPast half_open a.m.now.count a.m.now.starts.now a.from a.window.end c.first_past-to.result =
    rw (to_z-of_z (sfits_of c.struct_told-1.given.1.0.1)) at c.first_past-to.ensures in
    let p = c.requires in
    strange_is p.0 p.1 next p.2 p.3 (c.statuses.ensures.wrong c.if-not-statuses.true)

pub table_of-requires : goal.table_of-requires
table_of-requires c =
    let a = c.args in
    let next : FirstPast half_open a.m.now.count a.m.now.starts.now a.from a.window.end c.first_past-to.result =
    rw (to_z-of_z (sfits_of c.struct_told-1.given.1.0.1)) at c.first_past-to.ensures in
    let p = c.requires in
    let s = c.statuses.ensures.right c.if-not-statuses.false in
    (met p.0 p.1 next p.2 p.3, s, apart p.0 p.1 next p.2 p.3, table_room p.0 p.1 next p.2 p.3)

pub returns : goal.returns
returns c =
    let a = c.args in
    let next : FirstPast half_open a.m.now.count a.m.now.starts.now a.from a.window.end c.first_past-to.result =
    rw (to_z-of_z (sfits_of c.struct_told-1.given.1.0.1)) at c.first_past-to.ensures in
    let p = c.requires in
    let s = c.statuses.ensures.right c.if-not-statuses.false in
    ap Some c.gathered.ensures ∙ table_is p.0 p.1 next p.2 p.3 c.table_of.result s c.table_of.ensures
