use Prim.Native.Nat.{◌*◌}
use Rattle.filling.specs.Filling.{series, AddsWithin}
use Rattle.svg_text.specs.SvgText.{hour_rule}
use Rattle.svg_text.proofs.put_hour_rules.Given as goal

abbrev pub invariant-loop-i : goal.invariant-loop-i
invariant-loop-i l = AddsWithin (29 * l.i) (series hour_rule l.i) l.initial.out l.at l.out l.to
