use Prim.Native.Nat.{◌*◌}
use Rattle.filling.specs.Filling.{series, AddsWithin}
use Rattle.svg_text.specs.SvgText.{row_rule}
use Rattle.svg_text.proofs.put_row_rules.Given as goal

abbrev pub invariant-loop-j : goal.invariant-loop-j
invariant-loop-j l = AddsWithin (48 * l.j) (series (row_rule l.w) l.j) l.initial.out l.at l.out l.to
