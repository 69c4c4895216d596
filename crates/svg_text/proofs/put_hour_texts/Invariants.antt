use Prim.Native.Nat.{◌*◌}
use Rattle.filling.specs.Filling.{series, AddsWithin}
use Rattle.svg_text.specs.SvgText.{hour_svg}
use Rattle.svg_text.proofs.put_hour_texts.Given as goal

abbrev pub invariant-loop-h : goal.invariant-loop-h
invariant-loop-h l = AddsWithin (70 * l.h) (series (hour_svg l.n) l.h) l.initial.out l.at l.out l.to
