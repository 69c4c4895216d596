-- A day's report as text. A name takes 14 columns; seconds stand at the right of 11, the clock's time at the right of 8, hours at the right of 7.
use Rattle.std.specs.Prelude.{ℕ, ◌-◌, List, ◌++◌, ℤ}
use Rattle.key.specs.Rank.{rank}
use Rattle.duty.specs.declared.Totals.{Totals}
use Rattle.text.specs.Text.{right_of, left_of}
use Rattle.decimal.specs.Decimal.{decimal_text, signed_text}
use Rattle.filling.specs.Filling.{ascii, series}
use Rattle.report_text.specs.Rows.{row_count, row_name, row_of, sum_seconds}
use Rattle.report_text.specs.Times.{clock_text, hours_text}

-- a name in its columns
unfoldable pub name_column : List ℕ → List ℕ
name_column name = left_of 14 name

-- the line of a key
unfoldable pub key_line : List ℕ → ℤ → List ℕ
key_line name z = name_column name ++ right_of 11 (signed_text z) ++ ascii "\n"

-- seconds in their columns, as a number, by the clock, and as hours
unfoldable pub seconds_column : ℕ → List ℕ
seconds_column n = right_of 11 (decimal_text n) ++ ascii " s"

unfoldable pub clock_column : ℕ → List ℕ
clock_column n = ascii "  " ++ right_of 8 (clock_text n)

unfoldable pub hours_column : ℕ → List ℕ
hours_column n = ascii "  " ++ right_of 7 (hours_text n) ++ ascii " h\n"

unfoldable pub times_text : ℕ → List ℕ
times_text n = seconds_column n ++ clock_column n ++ hours_column n

-- the line of a number of seconds
unfoldable pub seconds_line : List ℕ → ℕ → List ℕ
seconds_line name n = name_column name ++ times_text n

-- the lines of the five rows
unfoldable pub row_lines : Totals → List ℕ
row_lines t = series (λ j. seconds_line (row_name j) (row_of t j)) row_count

-- the lines of a day's start, end and length
unfoldable pub day_lines : ℤ → ℤ → List ℕ
day_lines s e = key_line (ascii "start") s ++ key_line (ascii "end") e ++ seconds_line (ascii "length") (rank e - rank s)

-- THE REPORT of the day from s up to e
unfoldable pub report_text : ℤ → ℤ → Totals → List ℕ
report_text s e t = day_lines s e ++ row_lines t ++ seconds_line (ascii "sum") (sum_seconds t)
