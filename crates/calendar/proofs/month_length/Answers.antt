use native.Mathlib.Omega.{arith}
use mathlib.Core.Path.{ap, sym, ◌∙◌}
use Rattle.calendar.specs.Calendar.{month_length}
use Rattle.calendar.proofs.Lengths.{no_month, month_short, from_table}
use Rattle.calendar.proofs.month_length.Goals as goal

pub returns-in-2 : goal.returns-in-2
returns-in-2 c =
    let a = c.args in
    let e = c.february.ensures ∙ ap (month_length a.year) (sym c.in-2.is) in
    (e, omega (arith, month_short a.year a.month, e))

pub returns-in-0-to-12 : goal.returns-in-0-to-12
returns-in-0-to-12 c =
    let a = c.args in
    let e = from_table a.year a.month (omega arith) (λ two. omega arith) in
    (e, omega (arith, month_short a.year a.month, e))

pub returns-in_default : goal.returns-in_default
returns-in_default c = (no_month c.args.year c.args.month (omega arith), omega arith)
