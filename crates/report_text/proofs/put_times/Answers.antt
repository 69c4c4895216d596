use Rattle.filling.proofs.Laws.{then_within}
use Rattle.report_text.specs.ReportText.{times_text}
use Rattle.report_text.proofs.put_times.Goals as goal

pub returns : goal.returns
unfolding times_text
returns c = then_within (then_within c.put_seconds_column-clock.ensures c.put_clock_column-hours.ensures) c.put_hours_column.ensures
