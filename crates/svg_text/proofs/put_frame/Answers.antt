use native.Mathlib.Omega.{arith}
use mathlib.Core.Path.{refl}
use Rattle.filling.proofs.Laws.{then_within, as_within}
use Rattle.svg_text.specs.SvgText.{frame_svg}
use Rattle.svg_text.proofs.put_frame.Goals as goal

pub returns : goal.returns
unfolding frame_svg
returns c = as_within refl (omega arith) (then_within (then_within (then_within c.put_head-hours.ensures c.put_hour_path-lines.ensures) c.put_row_path-texts.ensures) c.put_hour_texts.ensures)
