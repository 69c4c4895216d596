use native.Mathlib.Omega.{arith}
use mathlib.Core.Path.{◌≡◌, refl}
use mir.Syntax.{w64}
use mir.Val.{to_z, of_z}
use borrow.Author.Rules.{rules}
use Rattle.key.specs.Range.{half_open}
use Rattle.outcomes.specs.Stored.{ranges}
use Rattle.outcomes.specs.Lent.{of_ref}
use Rattle.filling.proofs.Laws.{as_within, within_length, series_none, series_more}
use Rattle.graph_text.proofs.Quarters.{quarter_in}
use Rattle.svg_text.specs.SvgText.{mark_svg}
use Rattle.svg_text.proofs.put_marks.Goals as goal

pub loop-q-init : goal.loop-q-init
loop-q-init c = series_none _ _ _

pub put_mark-to-requires : goal.put_mark-to-requires
put_mark-to-requires c =
    let f : to_z w64 (of_z w64 c.args.day.start) ≡ c.args.day.start = search rules in
    rw f (quarter_in c.requires.0 (omega arith), c.requires.1, omega (arith, c.requires.0.few), omega (arith, c.requires.0.few, within_length c.loop-q.invariant))

pub loop-q-preserved : goal.loop-q-preserved
loop-q-preserved c =
    let a = c.args in
    let l = c.loop-q in
    let f : to_z w64 (of_z w64 a.day.start) ≡ a.day.start = search rules in
    as_within refl (omega arith) (series_more (mark_svg (ranges half_open (of_ref a.m.now)) a.day.start a.row) l.q l.invariant (rw f at c.put_mark-to.ensures))
