use native.Mathlib.Omega.{arith}
use mathlib.Core.Path.{refl}
use Rattle.filling.proofs.Laws.{then_within, as_within}
use Rattle.report_text.specs.ReportText.{seconds_line}
use Rattle.report_text.proofs.put_seconds_line.Goals as goal

pub returns : goal.returns
unfolding seconds_line
returns c = as_within refl (omega arith) (then_within c.put_name_column-to.ensures c.put_times.ensures)
