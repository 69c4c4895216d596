use native.Mathlib.Omega.{arith}
use Rattle.key.specs.Range.{half_open}
use Rattle.outcomes.specs.declared.Stored.{Stored}
use Rattle.outcomes.proofs.Formed.{sound_held}
use Rattle.byte_form.proofs.Lawful.{rm01_lawful}
use Rattle.byte_io.proofs.Writing.{puts_none, puts_all}
use Rattle.byte_io.proofs.write.write_formed.Goals as goal

pub returns-then-out-n : goal.returns-then-out-n
returns-then-out-n c =
    let lent_map : Stored =
    c.args.m.now in
    let s = c in puts_none rm01_lawful lent_map s.requires.0 s.args.out.now (omega arith)

pub write_ranges-requires : goal.write_ranges-requires
write_ranges-requires c =
    let lent_map : Stored =
    c.args.m.now in
    let h = sound_held half_open lent_map c.requires.0 in
    record { starts = h; ends = c.requires.0.ends_as; values = c.requires.0.values_as; few = c.requires.1; bytes = omega arith }

pub returns : goal.returns
returns c =
    let lent_map : Stored =
    c.args.m.now in
    let n = c.form_size-n.ensures in
    rw n (puts_all rm01_lawful lent_map c.requires.0 c.args.out.now (omega arith) c.put_head.ensures c.write_ranges.ensures)
