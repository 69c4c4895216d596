use native.Mathlib.Omega.{arith}
use mathlib.Core.Path.{◌≡◌, refl}
use mir.Syntax.{w64}
use mir.Val.{to_z, of_z}
use borrow.Author.Rules.{rules}
use Rattle.key.specs.Range.{half_open}
use Rattle.outcomes.specs.Stored.{ranges}
use Rattle.outcomes.specs.Lent.{of_ref}
use Rattle.filling.proofs.Laws.{in_room, as_within, series_none, series_more}
use Rattle.graph_text.specs.Grid.{cell}
use Rattle.graph_text.proofs.Quarters.{quarter_in}
use Rattle.graph_text.proofs.put_cells.Goals as goal

pub loop-q-init : goal.loop-q-init
loop-q-init c = series_none _ _ _

pub shown_at-byte-requires : goal.shown_at-byte-requires
shown_at-byte-requires c =
    let f : to_z w64 (of_z w64 c.args.day.start) ≡ c.args.day.start = search rules in
    rw f (quarter_in c.requires.0 (omega arith), c.requires.1, omega (arith, c.requires.0.few))

pub loop-q-preserved : goal.loop-q-preserved
unfolding cell
loop-q-preserved c =
    let a = c.args in
    let l = c.loop-q in
    let f : to_z w64 (of_z w64 a.day.start) ≡ a.day.start = search rules in
    let b = rw (rw f at c.shown_at-byte.ensures) at c.put_byte-to.ensures in
    as_within refl (omega arith) (series_more (cell (ranges half_open (of_ref a.m.now)) a.day.start a.row) l.q l.invariant (in_room {room = 1} (omega arith) b))
