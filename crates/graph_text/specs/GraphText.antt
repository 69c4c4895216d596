-- The grid of a day as text.
use Rattle.std.specs.Prelude.{ℕ, List, ◌++◌, ℤ, replicate}
use Rattle.span.specs.Span.{Span}
use Rattle.duty.specs.declared.Totals.{Totals}
use Rattle.text.specs.Text.{space, left_of}
use Rattle.decimal.specs.Decimal.{decimal_text}
use Rattle.filling.specs.Filling.{ascii, series}
use Rattle.report_text.specs.Rows.{row_count, row_name, row_of, sum_seconds}
use Rattle.report_text.specs.ReportText.{name_column, clock_column}
use Rattle.graph_text.specs.Grid.{quarters_in, hours_in, clock_hour, cell}

-- an hour of n as the clock shows it, in 4 columns
unfoldable pub hour_column : ℕ → ℕ → List ℕ
hour_column n h = left_of 4 (decimal_text (clock_hour n h))

-- the line of the hours
unfoldable pub hours_line : ℕ → List ℕ
hours_line n = name_column (ascii "") ++ series (hour_column n) n ++ ascii "\n"

-- a total behind the quarters
unfoldable pub total_column : ℕ → List ℕ
total_column n = clock_column n ++ ascii "\n"

-- the line of a row: its name, its quarters, its total
unfoldable pub row_line : List Span → ℤ → ℕ → Totals → ℕ → List ℕ
row_line m s n t j = name_column (row_name j) ++ series (cell m s j) n ++ total_column (row_of t j)

-- the line of the sum: a space for each quarter
unfoldable pub sum_line : ℕ → Totals → List ℕ
sum_line n t = name_column (ascii "sum") ++ replicate n space ++ total_column (sum_seconds t)

-- THE GRID of the day from s up to e, in which the map holds m, and whose totals are t
unfoldable pub graph_text : List Span → ℤ → ℤ → Totals → List ℕ
graph_text m s e t = hours_line (hours_in s e) ++ series (row_line m s (quarters_in s e) t) row_count ++ sum_line (quarters_in s e) t
