-- Document 01's November day as a grid, by computation.
use mathlib.Core.Path.{◌≡◌, refl}
use mathlib.Core.List.{List, [], ◌∷◌, ◌++◌}
use lib.IntN.{pos}
use Rattle.span.specs.Span.{Span, span, inside, keep, before, after, joins, push, joined, given, history}
use Rattle.span.specs.Operations.{cuts, uncovered, within, span_total, any}
use Rattle.key.specs.Rank.{above_least, bit_rank, rank}
use Rattle.duty.proofs.ByStatus.{of_duties}
use Rattle.duty.specs.declared.Totals.{Totals}
use Rattle.text.specs.Text.{right_of, left_of}
use Rattle.decimal.specs.Decimal.{digits_text, spelled, decimal_text, signed_text}
use Rattle.filling.specs.Filling.{ascii, piece_of, left_by, filled_in, series}
use Rattle.report_text.specs.Rows.{row_name, row_of, sum_seconds}
use Rattle.report_text.specs.Times.{pair_text, clock_text}
use Rattle.report_text.specs.ReportText.{name_column, clock_column}
use Rattle.graph_text.specs.Grid.{clock_hour, in_quarter, is_marked, mark_of, blank_of, shown, cell}
use Rattle.graph_text.specs.GraphText.{hour_column, hours_line, total_column, row_line, sum_line, graph_text}

-- `unfolding all` opens every definition that a case computes with: of spans, of text, of the grid
unfoldable of_spans : Unit {0}
unfolding inside keep before after joins push joined given history cuts uncovered within span_total any above_least bit_rank
of_spans = tt

unfoldable of_text : Unit {0}
unfolding right_of left_of digits_text spelled decimal_text signed_text piece_of left_by filled_in series row_name row_of sum_seconds pair_text clock_text name_column clock_column
of_text = tt

unfoldable all : Unit {0}
unfolding of_spans of_duties of_text clock_hour in_quarter is_marked mark_of blank_of shown cell hour_column hours_line total_column row_line sum_line graph_text
all = tt

-- THE HOURS of the three kinds of day: 2 is missing, all are there, 1 stands twice
pub hours_23 : series (hour_column 23) 23 ≡ ascii "0   1   3   4   5   6   7   8   9   10  11  12  13  14  15  16  17  18  19  20  21  22  23  "
unfolding all
hours_23 = refl

pub hours_24 : series (hour_column 24) 24 ≡ ascii "0   1   2   3   4   5   6   7   8   9   10  11  12  13  14  15  16  17  18  19  20  21  22  23  "
unfolding all
hours_24 = refl

pub hours_25 : series (hour_column 25) 25 ≡ ascii "0   1   1   2   3   4   5   6   7   8   9   10  11  12  13  14  15  16  17  18  19  20  21  22  23  "
unfolding all
hours_25 = refl

-- status 1 over 2024-11-03, Eastern, and 3 on 1730628000..1730653200
abbrev held : List Span
held = span (rank (pos 1730606400)) (rank (pos 1730628000)) 1 ∷ span (rank (pos 1730628000)) (rank (pos 1730653200)) 3 ∷ span (rank (pos 1730653200)) (rank (pos 1730696400)) 1 ∷ []

abbrev totals : Totals
totals = record { off_duty = 64800; sleeper_berth = 0; driving = 25200; on_duty = 0; unrecorded = 0 }

pub november_grid : graph_text held (pos 1730606400) (pos 1730696400) totals ≡
    ascii "              0   1   1   2   3   4   5   6   7   8   9   10  11  12  13  14  15  16  17  18  19  20  21  22  23  \n" ++
    ascii "off duty      ########################:...:...:...:...:...:...:...################################################  18:00:00\n" ++
    ascii "sleeper berth :...:...:...:...:...:...:...:...:...:...:...:...:...:...:...:...:...:...:...:...:...:...:...:...:...   0:00:00\n" ++
    ascii "driving       :...:...:...:...:...:...############################:...:...:...:...:...:...:...:...:...:...:...:...   7:00:00\n" ++
    ascii "on duty       :...:...:...:...:...:...:...:...:...:...:...:...:...:...:...:...:...:...:...:...:...:...:...:...:...   0:00:00\n" ++
    ascii "unrecorded    :...:...:...:...:...:...:...:...:...:...:...:...:...:...:...:...:...:...:...:...:...:...:...:...:...   0:00:00\n" ++
    ascii "sum                                                                                                                 25:00:00\n"
unfolding all
november_grid = refl
