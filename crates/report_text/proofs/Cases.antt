-- Document 01's November report as text, by computation.
use mathlib.Core.Path.{◌≡◌, refl}
use mathlib.Core.List.{◌++◌}
use lib.IntN.{pos}
use Rattle.key.specs.Rank.{above_least, bit_rank}
use Rattle.text.specs.Text.{right_of, left_of}
use Rattle.decimal.specs.Decimal.{digits_text, spelled, decimal_text, signed_text}
use Rattle.filling.specs.Filling.{ascii, series}
use Rattle.report_text.specs.Rows.{row_name, row_of, sum_seconds}
use Rattle.report_text.specs.Times.{pair_text, clock_text, ten_thousandths, hours_text}
use Rattle.report_text.specs.ReportText.{name_column, key_line, seconds_column, clock_column, hours_column}
use Rattle.report_text.specs.ReportText.{times_text, seconds_line, row_lines, day_lines, report_text}

unfoldable all : Unit {0}
unfolding above_least bit_rank right_of left_of digits_text spelled decimal_text signed_text series row_name row_of sum_seconds pair_text clock_text ten_thousandths hours_text name_column key_line seconds_column clock_column hours_column times_text seconds_line row_lines day_lines report_text
all = tt

pub november_text : report_text (pos 1730606400) (pos 1730696400) (record { off_duty = 64800; sleeper_berth = 0; driving = 25200; on_duty = 0; unrecorded = 0 }) ≡
    ascii "start          1730606400\n" ++
    ascii "end            1730696400\n" ++
    ascii "length              90000 s  25:00:00  25.0000 h\n" ++
    ascii "off duty            64800 s  18:00:00  18.0000 h\n" ++
    ascii "sleeper berth           0 s   0:00:00   0.0000 h\n" ++
    ascii "driving             25200 s   7:00:00   7.0000 h\n" ++
    ascii "on duty                 0 s   0:00:00   0.0000 h\n" ++
    ascii "unrecorded              0 s   0:00:00   0.0000 h\n" ++
    ascii "sum                 90000 s  25:00:00  25.0000 h\n"
unfolding all
november_text = refl

-- one second is 0.0003 hours
pub one_second : hours_text 1 ≡ ascii "0.0003"
unfolding all
one_second = refl
