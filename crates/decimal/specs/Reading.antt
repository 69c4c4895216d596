-- What a text says as a number. It says one exactly where it is that number's text: `read_written` and `written_read` in proofs/Reading.antt.
use Rattle.std.specs.Prelude.{ℕ, ℤ, zero, suc, ◌+◌, ◌-◌, ◌*◌, ◌^◌, Bool, true, false, cond, not, ◌&&◌, List, [], ◌∷◌, ltb, leb, eqb, pos, negsuc, Option, Some, None}
use Rattle.decimal.specs.Decimal.{digit, minus}

-- a text is not empty, and no zero stands before other bytes
unfoldable pub no_leading_zero : List ℕ → Bool
no_leading_zero [] = false
no_leading_zero (b ∷ []) = true
no_leading_zero (b ∷ c ∷ t) = not (eqb b (digit 0))

-- a number with one byte more behind it: a number where the byte is a digit and the number is below 2 ^ 64
unfoldable pub next_of : Option ℕ → ℕ → Option ℕ
next_of None b = None
next_of (Some n) b =
    cond (leb (digit 0) b && leb b (digit 9) && ltb (10 * n + (b - digit 0)) (2 ^ 64)) (Some (10 * n + (b - digit 0))) None

-- byte after byte
unfoldable pub read_on : Option ℕ → List ℕ → Option ℕ
read_on a [] = a
read_on a (b ∷ t) = read_on (next_of a b) t

-- the number below 2 ^ 64 that a text says
unfoldable pub read_number : List ℕ → Option ℕ
read_number t = cond (no_leading_zero t) (read_on (Some 0) t) None

-- a number as an i64
unfoldable pub as_natural : Option ℕ → Option ℤ
as_natural (Some n) = cond (ltb n (2 ^ 63)) (Some (pos n)) None
as_natural None = None

-- a number behind a minus, as an i64: there is no -0
unfoldable pub as_negative : Option ℕ → Option ℤ
as_negative (Some zero) = None
as_negative (Some (suc n)) = cond (ltb n (2 ^ 63)) (Some (negsuc n)) None
as_negative None = None

-- the i64 that a text says
unfoldable pub read_signed : List ℕ → Option ℤ
read_signed [] = None
read_signed (b ∷ t) = cond (eqb b minus) (as_negative (read_number t)) (as_natural (read_number (b ∷ t)))
