-- Numbers as decimal text, which is a list of bytes.
use Rattle.std.specs.Prelude.{ℕ, zero, suc, ◌+◌, ◌/◌, ◌%◌, cond, List, [], ◌∷◌, ◌++◌, ltb, ℤ, pos, negsuc}

-- no text of a number of 64 bits is longer, its sign counted: laws length-u64 and length-signed
abbrev pub longest_number : ℕ
longest_number = 20

-- the byte of a digit
abbrev pub digit : ℕ → ℕ
digit d = 48 + d

-- the byte of a minus
abbrev pub minus : ℕ
minus = 45

-- the last k digits of n, the most significant first
unfoldable pub digits_text : ℕ → ℕ → List ℕ
digits_text zero n = []
digits_text (suc k) n = digits_text k (n / 10) ++ (digit (n % 10) ∷ [])

-- the digits of n with no zero before them, where it has at most k: those of n / 10, and the last
unfoldable pub spelled : ℕ → ℕ → List ℕ
spelled zero n = []
spelled (suc k) n = cond (ltb n 10) (digit n ∷ []) (spelled k (n / 10) ++ (digit (n % 10) ∷ []))

-- the text of a number: no number below 2 ^ 64 has more than 20 digits
unfoldable pub decimal_text : ℕ → List ℕ
decimal_text n = spelled 20 n

-- the text of a number with a sign: negsuc n is -(n + 1)
unfoldable pub signed_text : ℤ → List ℕ
signed_text (pos n) = decimal_text n
signed_text (negsuc n) = minus ∷ decimal_text (suc n)
