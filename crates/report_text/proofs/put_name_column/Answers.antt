use Rattle.report_text.proofs.Columns.{name_within}
use Rattle.report_text.proofs.put_name_column.Goals as goal

pub returns : goal.returns
returns c = name_within _ c.requires.0 c.put_left.ensures
