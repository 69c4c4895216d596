use native.Mathlib.Omega.{arith}
use mathlib.Core.Path.{◌≡◌, refl, ap, ◌∙◌}
use lib.ListN.{take}
use lib.Seq.{sets}
use borrow.Author.Rules.{rules}
use Rattle.outcomes.specs.Outcomes.{entries}
use Rattle.byte_form.specs.Layout.{rm01, head_size}
use Rattle.byte_form.specs.Form.{entries_of, ranges_bytes}
use Rattle.byte_form.proofs.Lawful.{rm01_lawful}
use Rattle.byte_io.proofs.Writing.{Even, write_more}
use Rattle.byte_io.proofs.write.write_ranges.Goals as goal

pub loop-i-init : goal.loop-i-init
unfolding ranges_bytes
loop-i-init c = refl

pub loop-i-preserved : goal.loop-i-preserved
loop-i-preserved c =
    let l = c.loop-i in
    let m = c.args.m.now in
    let even : Even m.starts m.ends m.values = record { ends = c.requires.ends; values = c.requires.values } in
    write_more rm01_lawful m.starts m.ends m.values c.args.out.now l.i c.form_size-at.result (omega arith) even
    c.form_size-at.ensures (omega arith) l.invariant (search rules) (search rules) refl c.put_range.ensures

pub returns : goal.returns
unfolding entries_of
returns c =
    let m = c.args.m.now in
    let n : c.loop-i.i ≡ m.count = omega arith in
    c.loop-i.invariant ∙ ap (λ (k : _). sets c.args.out.now (head_size rm01) (ranges_bytes rm01 (take k (entries m.starts m.ends m.values)))) n
