-- The lines of a picture of 25 hours, by computation.
use mathlib.Core.Path.{◌≡◌, refl}
use mathlib.Core.List.{List, [], ◌∷◌, ◌++◌}
use lib.IntN.{pos}
use Rattle.span.specs.Span.{Span, span, inside, keep, before, after, joins, push, joined, given, history}
use Rattle.span.specs.Operations.{cuts, uncovered, within, span_total}
use Rattle.key.specs.Rank.{above_least, bit_rank, rank}
use Rattle.duty.proofs.ByStatus.{of_duties}
use Rattle.decimal.specs.Decimal.{digits_text, spelled, decimal_text}
use Rattle.filling.specs.Filling.{ascii, piece_of, left_by, filled_in, series}
use Rattle.report_text.specs.Rows.{row_name, row_of}
use Rattle.report_text.specs.Times.{pair_text, clock_text}
use Rattle.graph_text.specs.Grid.{clock_hour, in_quarter, is_marked}
use Rattle.svg_text.specs.SvgText.{head_svg, hour_rule, hour_rules, row_rule, row_rules, hour_svg, name_svg}
use Rattle.svg_text.specs.SvgText.{total_svg, ink_of, mark_at, mark_svg, ink_svg, marks_svg, foot_svg}

-- `unfolding all` opens every definition that a case computes with: of spans, of text, of the picture
unfoldable of_spans : Unit {0}
unfolding inside keep before after joins push joined given history cuts uncovered within span_total above_least bit_rank
of_spans = tt

unfoldable of_text : Unit {0}
unfolding digits_text spelled decimal_text piece_of left_by filled_in series row_name row_of pair_text clock_text clock_hour in_quarter is_marked
of_text = tt

unfoldable all : Unit {0}
unfolding of_spans of_duties of_text head_svg hour_rule hour_rules row_rule row_rules hour_svg name_svg total_svg ink_of mark_at mark_svg ink_svg marks_svg foot_svg
all = tt

pub head : head_svg 800 ≡
    ascii "<svg xmlns=\"http://www.w3.org/2000/svg\" width=\"1000\" height=\"180\" font-family=\"monospace\" font-size=\"12\">\n" ++
    ascii "<rect width=\"100%\" height=\"100%\" fill=\"white\"/>\n"
unfolding all
head = refl

-- the lines of two hours, and those between the rows
pub two_hours : hour_rules 2 ≡ ascii "<path stroke=\"silver\" d=\"M112 32v120M144 32v120M176 32v120\"/>\n"
unfolding all
two_hours = refl

pub all_rows : row_rules 800 ≡ ascii "<path stroke=\"gray\" d=\"M112 32h800M112 56h800M112 80h800M112 104h800M112 128h800M112 152h800\"/>\n"
unfolding all
all_rows = refl

-- the second hour that the clock shows as 1
pub second_one : hour_svg 25 2 ≡ ascii "<text x=\"178\" y=\"26\">1</text>\n"
unfolding all
second_one = refl

-- the marks of an hour, of which half is driven, and of its unrecorded time
abbrev held : List Span
held = span (rank (pos 0)) (rank (pos 1800)) 3 ∷ []

pub driven : marks_svg held (pos 0) 4 2 ≡ ascii "<path stroke=\"navy\" stroke-width=\"4\" d=\"M112 92h8M120 92h8\"/>\n"
unfolding all
driven = refl

pub unrecorded : marks_svg held (pos 0) 4 4 ≡ ascii "<path stroke=\"red\" stroke-width=\"4\" d=\"M128 140h8M136 140h8\"/>\n"
unfolding all
unrecorded = refl

pub foot : foot_svg 100 90000 ≡ ascii "<text x=\"6\" y=\"169\">sum</text>\n" ++ ascii "<text x=\"992\" y=\"169\" text-anchor=\"end\">25:00:00</text>\n" ++ ascii "</svg>\n"
unfolding all
foot = refl
