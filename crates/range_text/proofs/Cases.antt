-- Document 01's three ranges as text, and the longest line, by computation.
use mathlib.Core.Path.{◌≡◌, refl}
use mathlib.Core.List.{[], ◌∷◌}
use lib.IntN.{pos, negsuc}
use Rattle.outcomes.specs.Stored.{stored}
use Rattle.decimal.specs.Decimal.{spelled, decimal_text, signed_text}
use Rattle.filling.specs.Filling.{ascii, piece_of, left_by, filled_in, series}
use Rattle.range_text.specs.RangeText.{range_text, range_line, result_line, ranges_text, result_text}

unfoldable all : Unit {0}
unfolding spelled decimal_text signed_text piece_of left_by filled_in series range_text range_line result_line ranges_text result_text
all = tt

-- 0..8>1 with 2..4>2 inserted
pub three_ranges : ranges_text (stored 3 (pos 0 ∷ pos 2 ∷ pos 4 ∷ []) (pos 2 ∷ pos 4 ∷ pos 8 ∷ []) (1 ∷ 2 ∷ 1 ∷ [])) ≡ ascii "0..2>1\n2..4>2\n4..8>1\n"
unfolding all
three_ranges = refl

-- both i64 ends and the greatest value
pub longest_line : range_line (negsuc 9223372036854775807) (pos 9223372036854775807) 255 ≡ ascii "-9223372036854775808..9223372036854775807>255\n"
unfolding all
longest_line = refl

-- two ranges of a result
pub two_results : result_text (pos 0 ∷ pos 7 ∷ []) (pos 5 ∷ pos 9 ∷ []) 2 ≡ ascii "0..5\n7..9\n"
unfolding all
two_results = refl
