-- How many bytes the parts of a picture take at most.
use Rattle.std.specs.Prelude.{ℕ}

-- a line of text
abbrev pub text_room : ℕ
text_room = 160

-- a mark, and the most that a row has
abbrev pub mark_room : ℕ
mark_room = 46

abbrev pub marks_room : ℕ
marks_room = 4600

-- a row: its name, its marks, its total
abbrev pub row_room : ℕ
row_room = 5000

-- what stands before the rows, and behind them
abbrev pub frame_room : ℕ
frame_room = 4000

abbrev pub foot_room : ℕ
foot_room = 400

-- all of it
abbrev pub svg_room : ℕ
svg_room = 29400
