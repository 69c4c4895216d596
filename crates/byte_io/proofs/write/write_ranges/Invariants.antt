use mathlib.Core.Path.{◌≡◌}
use lib.ListN.{take}
use lib.Seq.{sets}
use Rattle.outcomes.specs.Outcomes.{entries}
use Rattle.byte_form.specs.Layout.{rm01, head_size}
use Rattle.byte_form.specs.Form.{ranges_bytes}
use Rattle.byte_io.proofs.write.write_ranges.Given as goal

abbrev pub invariant-loop-i : goal.invariant-loop-i
invariant-loop-i l = l.out ≡ sets l.initial.out (head_size rm01) (ranges_bytes rm01 (take l.i (entries l.m.starts l.m.ends l.m.values)))
