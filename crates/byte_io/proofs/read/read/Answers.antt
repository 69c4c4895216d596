use native.Mathlib.Omega.{arith}
use Rattle.outcomes.proofs.Went.{leaves}
use Rattle.byte_form.specs.Form.{read}
use Rattle.byte_form.specs.Layout.{rm01}
use Rattle.byte_io.proofs.Reading.{reads_form}
use Rattle.byte_io.proofs.read.read.Goals as goal

pub returns-in_default : goal.returns-in_default
unfolding read
returns-in_default c = leaves (rw c.in_default.ensures)

pub returns : goal.returns
returns c =
    leaves (reads_form rm01 c.args.m.now c.args.bytes.now c.in-Some.n c.in-Some.ensures
    (record { starts = omega arith; ends = omega arith; values = omega arith }) c.fill.ensures c.clear_rest.ensures)
