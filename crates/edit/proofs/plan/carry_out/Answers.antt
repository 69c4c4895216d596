use native.Mathlib.Omega.{arith}
use Rattle.outcomes.specs.Stored.{stored}
use Rattle.outcomes.specs.declared.Stored.{Stored}
use Rattle.outcomes.proofs.Went.{leaves}
use Rattle.edit.proofs.Carried.{no_room, carried_out}
use Rattle.edit.proofs.plan.carry_out.Goals as goal

pub returns-then-starts-next : goal.returns-then-starts-next
returns-then-starts-next c =
    let g = c.args in
    let lent_map : Stored = stored g.count.now g.starts.now g.ends.now g.values.now in
    leaves (no_room lent_map g.p c.if-starts-next.true)

pub splice-requires : goal.splice-requires
splice-requires c =
    (c.requires.0, c.requires.1, record { held = c.requires.0.held; room = omega arith })

pub returns : goal.returns
returns c =
    let g = c.args in
    let lent_map : Stored = stored g.count.now g.starts.now g.ends.now g.values.now in
    let w = c.splice.ensures in
    leaves (carried_out lent_map g.p c.if-starts-next.false w.starts_value w.ends_value w.values_value)
