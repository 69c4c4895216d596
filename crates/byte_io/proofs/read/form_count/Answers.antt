use native.Mathlib.Omega.{arith}
use mathlib.Core.Path.{sym, ◌∙◌}
use Rattle.byte_form.specs.Layout.{rm01}
use Rattle.byte_form.proofs.Lawful.{rm01_lawful}
use Rattle.byte_io.specs.InnerRead.{Sized}
use Rattle.byte_io.proofs.Reading.{refused, form_sized, form_marked, form_few, form_tidy}
use Rattle.byte_io.proofs.read.form_count.Goals as goal
use Rattle.byte_io.proofs.read.form_count.Goals.{then-bytes-form_size-via-then-bytes-form_size, then-bytes-form_size-via-else-bytes-form_size+then-not-tidy}
use Rattle.byte_io.proofs.read.form_count.Goals.{then-bytes-lt-HEAD_SIZE-via-then-bytes-lt-HEAD_SIZE, then-bytes-lt-HEAD_SIZE-via-else-bytes-lt-HEAD_SIZE+then-not-has_mark}

pub returns-then-bytes-lt-HEAD_SIZE : goal.returns-then-bytes-lt-HEAD_SIZE
returns-then-bytes-lt-HEAD_SIZE c =
    let bs = c.args.bytes.now in
    elim c.then-bytes-lt-HEAD_SIZE.branch [
      | then-bytes-lt-HEAD_SIZE-via-then-bytes-lt-HEAD_SIZE w ↦ refused rm01 bs (λ f. omega (arith, (form_sized rm01 rm01_lawful bs f).long))
      | then-bytes-lt-HEAD_SIZE-via-else-bytes-lt-HEAD_SIZE+then-not-has_mark w ↦ refused rm01 bs (λ f. w.has_mark.ensures.wrong w.if-not-has_mark.true (form_marked rm01 bs f))
    ]

pub returns-then-n : goal.returns-then-n
returns-then-n c = let bs = c.args.bytes.now in refused rm01 bs (λ f. omega (arith, form_few rm01 bs f))

pub returns-then-bytes-form_size : goal.returns-then-bytes-form_size
returns-then-bytes-form_size c =
    let bs = c.args.bytes.now in
    elim c.then-bytes-form_size.branch [
      | then-bytes-form_size-via-then-bytes-form_size w ↦
          refused rm01 bs (λ f. w.if-bytes-form_size.true (omega (arith, (form_sized rm01 rm01_lawful bs f).long)))
      | then-bytes-form_size-via-else-bytes-form_size+then-not-tidy w ↦
          sym (form_tidy rm01_lawful bs c.count_in-n.result w.tidy.result (λ j. (c.type_inv.bytes j).fits) (c.has_mark.ensures.right c.if-not-has_mark.false)
          c.count_in-n.ensures.0 (record { few = omega arith; long = omega arith }) w.tidy.ensures) ∙ w.if-not-tidy.true
    ]

pub returns : goal.returns
returns c =
    let sized : Sized rm01 c.count_in-n.result c.args.bytes.now = record { few = omega arith; long = omega arith } in
    record {
      is = sym (form_tidy rm01_lawful c.args.bytes.now c.count_in-n.result c.tidy.result (λ j. (c.type_inv.bytes j).fits)
          (c.has_mark.ensures.right c.if-not-has_mark.false) c.count_in-n.ensures.0 sized c.tidy.ensures) ∙ c.if-not-tidy.false;
      count = c.count_in-n.ensures.0;
      sized = sized;
    }
