-- Seconds as text: by the clock, and as hours with four decimals.
use Rattle.std.specs.Prelude.{ℕ, ◌+◌, ◌*◌, ◌/◌, ◌%◌, List, ◌++◌}
use Rattle.decimal.specs.Decimal.{digits_text, decimal_text}
use Rattle.filling.specs.Filling.{ascii}

-- a colon and two digits
unfoldable pub pair_text : ℕ → List ℕ
pair_text n = ascii ":" ++ digits_text 2 n

-- H:MM:SS
unfoldable pub clock_text : ℕ → List ℕ
clock_text n = decimal_text (n / 3600) ++ pair_text (n / 60 % 60) ++ pair_text (n % 60)

-- the nearest ten-thousandth of an hour, of n seconds: 10,000 n / 3,600, and a half
unfoldable pub ten_thousandths : ℕ → ℕ
ten_thousandths n = (50 * n + 9) / 18

-- hours with four decimals: the whole hours, and the nearest ten-thousandths of the rest
unfoldable pub hours_text : ℕ → List ℕ
hours_text n = decimal_text (n / 3600) ++ (ascii "." ++ digits_text 4 (ten_thousandths (n % 3600)))
