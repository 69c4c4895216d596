-- The grid of a day as a picture: a quarter is 8 wide, an hour 32, a row 24 high. `{` stands for the next number.
use Rattle.std.specs.Prelude.{ℕ, ◌+◌, ◌*◌, ◌/◌, cond, List, [], ◌∷◌, ◌++◌, eqb, ℤ}
use Rattle.span.specs.Span.{Span}
use Rattle.duty.specs.declared.Totals.{Totals}
use Rattle.filling.specs.Filling.{ascii, filled_in, series}
use Rattle.report_text.specs.Rows.{row_count, row_name, row_of, sum_seconds}
use Rattle.report_text.specs.Times.{clock_text}
use Rattle.graph_text.specs.Grid.{quarters_in, clock_hour, is_marked}

-- the head and the white ground, where w is the width of all quarters
unfoldable pub head_svg : ℕ → List ℕ
head_svg w =
    filled_in (ascii "<svg xmlns=\"http://www.w3.org/2000/svg\" width=\"{\" height=\"180\" font-family=\"monospace\" font-size=\"12\">\n") ((w + 200) ∷ []) ++
    ascii "<rect width=\"100%\" height=\"100%\" fill=\"white\"/>\n"

-- the lines between n hours
unfoldable pub hour_rule : ℕ → List ℕ
hour_rule i = filled_in (ascii "M{ 32v120") ((112 + 32 * i) ∷ [])

unfoldable pub hour_rules : ℕ → List ℕ
hour_rules n = ascii "<path stroke=\"silver\" d=\"" ++ series hour_rule (n + 1) ++ ascii "\"/>\n"

-- the lines between the rows
unfoldable pub row_rule : ℕ → ℕ → List ℕ
row_rule w j = filled_in (ascii "M112 {h{") ((32 + 24 * j) ∷ w ∷ [])

unfoldable pub row_rules : ℕ → List ℕ
row_rules w = ascii "<path stroke=\"gray\" d=\"" ++ series (row_rule w) (row_count + 1) ++ ascii "\"/>\n"

-- an hour of n as the clock shows it
unfoldable pub hour_svg : ℕ → ℕ → List ℕ
hour_svg n h = filled_in (ascii "<text x=\"{\" y=\"26\">{</text>\n") ((114 + 32 * h) ∷ clock_hour n h ∷ [])

-- a name at the left, at a height
unfoldable pub name_svg : ℕ → List ℕ → List ℕ
name_svg y name = filled_in (ascii "<text x=\"6\" y=\"{\">") (y ∷ []) ++ name ++ ascii "</text>\n"

-- a total at the right of w quarters' width, at a height
unfoldable pub total_svg : ℕ → ℕ → ℕ → List ℕ
total_svg w y n = filled_in (ascii "<text x=\"{\" y=\"{\" text-anchor=\"end\">") ((w + 192) ∷ y ∷ []) ++ clock_text n ++ ascii "</text>\n"

-- a mark is navy, in the row of unrecorded time red
unfoldable pub ink_of : ℕ → List ℕ
ink_of j = cond (eqb j 4) (ascii "red") (ascii "navy")

-- a quarter of a row, if it is marked
unfoldable pub mark_at : ℕ → ℕ → List ℕ
mark_at j q = filled_in (ascii "M{ {h8") ((112 + 8 * q) ∷ (44 + 24 * j) ∷ [])

unfoldable pub mark_svg : List Span → ℤ → ℕ → ℕ → List ℕ
mark_svg m s j q = cond (is_marked m s j q) (mark_at j q) []

-- the marks of a row of n quarters
unfoldable pub ink_svg : ℕ → List ℕ
ink_svg j = ascii "<path stroke=\"" ++ ink_of j ++ ascii "\" stroke-width=\"4\" d=\""

unfoldable pub marks_svg : List Span → ℤ → ℕ → ℕ → List ℕ
marks_svg m s n j = ink_svg j ++ series (mark_svg m s j) n ++ ascii "\"/>\n"

-- a row: its name, its marks, its total
unfoldable pub row_svg : List Span → ℤ → ℕ → Totals → ℕ → List ℕ
row_svg m s n t j = name_svg (49 + 24 * j) (row_name j) ++ marks_svg m s n j ++ total_svg (8 * n) (49 + 24 * j) (row_of t j)

-- what stands before the rows of n quarters, and behind them
unfoldable pub frame_svg : ℕ → List ℕ
frame_svg n = head_svg (8 * n) ++ hour_rules (n / 4) ++ row_rules (8 * n) ++ series (hour_svg (n / 4)) (n / 4)

unfoldable pub foot_svg : ℕ → ℕ → List ℕ
foot_svg n sum = name_svg 169 (ascii "sum") ++ total_svg (8 * n) 169 sum ++ ascii "</svg>\n"

-- THE PICTURE of the day from s up to e, in which the map holds m, and whose totals are t
unfoldable pub svg_text : List Span → ℤ → ℤ → Totals → List ℕ
svg_text m s e t = frame_svg (quarters_in s e) ++ series (row_svg m s (quarters_in s e) t) row_count ++ foot_svg (quarters_in s e) (sum_seconds t)
