-- How many bytes the parts of a report take at most. A number takes at most 20.
use Rattle.std.specs.Prelude.{ℕ, ◌*◌}

-- the columns of a name
abbrev pub name_room : ℕ
name_room = 14

-- the hour's number and two colons with two digits each
abbrev pub clock_room : ℕ
clock_room = 26

-- a line
abbrev pub report_line_room : ℕ
report_line_room = 100

-- all nine lines
abbrev pub report_room : ℕ
report_room = 9 * report_line_room
