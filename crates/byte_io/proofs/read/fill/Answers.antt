use mathlib.Core.Path.{refl, ap, ◌∙◌}
use mir.Syntax.{w64}
use mir.Facts.{to_z-of_z}
use borrow.Author.Rules.{rules}
use Rattle.key.specs.declared.Entry.{Entry}
use Rattle.byte_form.specs.Layout.{rm01, form_size}
use Rattle.byte_form.specs.Form.{ranges_in}
use Rattle.byte_io.proofs.Reading.{fill_more}
use Rattle.byte_io.proofs.read.fill.Goals as goal

pub loop-k-init : goal.loop-k-init
unfolding ranges_in
loop-k-init c = record { starts = refl; ends = refl; values = refl }

pub loop-k-preserved : goal.loop-k-preserved
loop-k-preserved c =
    let l = c.loop-k in
    let a = c.args in
    let m = a.m.now in
    let x = c.range_at-x.ensures in
    record {
      starts = fill_more rm01 (λ (x : Entry). x.start) m.starts a.bytes.now l.k (form_size rm01 l.k) refl l.invariant.starts
          (to_z-of_z {w = w64} (search rules) ∙ ap (λ (x : Entry). x.start) x);
      ends = fill_more rm01 (λ (x : Entry). x.end) m.ends a.bytes.now l.k (form_size rm01 l.k) refl l.invariant.ends
          (to_z-of_z {w = w64} (search rules) ∙ ap (λ (x : Entry). x.end) x);
      values = fill_more rm01 (λ (x : Entry). x.value) m.values a.bytes.now l.k (form_size rm01 l.k) refl l.invariant.values (ap (λ (x : Entry). x.value) x);
    }
