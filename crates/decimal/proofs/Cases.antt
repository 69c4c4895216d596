-- Texts and numbers, by computation.
use Prim.Native.Nat.{◌^◌, ◌-◌}
use mathlib.Core.Path.{◌≡◌, refl}
use mathlib.Core.List.{[], ◌∷◌}
use lib.IntN.{pos, negsuc}
use Rattle.decimal.specs.Decimal.{digits_text, spelled, decimal_text, signed_text}
use Rattle.decimal.specs.Reading.{no_leading_zero, next_of, read_on, read_number, as_natural, as_negative, read_signed}
use Rattle.std.specs.Prelude.{Some, None}

-- all that computes here
unfoldable all : Unit {0}
unfolding digits_text spelled decimal_text signed_text no_leading_zero next_of read_on read_number as_natural as_negative read_signed
all = tt

-- TEXTS

pub text_0 : decimal_text 0 ≡ 48 ∷ []
unfolding all
text_0 = refl

pub text_9 : decimal_text 9 ≡ 57 ∷ []
unfolding all
text_9 = refl

pub text_10 : decimal_text 10 ≡ 49 ∷ 48 ∷ []
unfolding all
text_10 = refl

-- 18446744073709551615
pub text_greatest_u64 : decimal_text (2 ^ 64 - 1) ≡ 49 ∷ 56 ∷ 52 ∷ 52 ∷ 54 ∷ 55 ∷ 52 ∷ 52 ∷ 48 ∷ 55 ∷ 51 ∷ 55 ∷ 48 ∷ 57 ∷ 53 ∷ 53 ∷ 49 ∷ 54 ∷ 49 ∷ 53 ∷ []
unfolding all
text_greatest_u64 = refl

-- -9223372036854775808
pub text_least : signed_text (negsuc (2 ^ 63 - 1)) ≡ 45 ∷ 57 ∷ 50 ∷ 50 ∷ 51 ∷ 51 ∷ 55 ∷ 50 ∷ 48 ∷ 51 ∷ 54 ∷ 56 ∷ 53 ∷ 52 ∷ 55 ∷ 55 ∷ 53 ∷ 56 ∷ 48 ∷ 56 ∷ []
unfolding all
text_least = refl

-- 9223372036854775807
pub text_greatest : signed_text (pos (2 ^ 63 - 1)) ≡ 57 ∷ 50 ∷ 50 ∷ 51 ∷ 51 ∷ 55 ∷ 50 ∷ 48 ∷ 51 ∷ 54 ∷ 56 ∷ 53 ∷ 52 ∷ 55 ∷ 55 ∷ 53 ∷ 56 ∷ 48 ∷ 55 ∷ []
unfolding all
text_greatest = refl

-- 7 in two digits
pub digits_07 : digits_text 2 7 ≡ 48 ∷ 55 ∷ []
unfolding all
digits_07 = refl

-- NO NUMBERS

-- 007
pub zeros_before : read_number (48 ∷ 48 ∷ 55 ∷ []) ≡ None
unfolding all
zeros_before = refl

-- no byte
pub nothing : read_number [] ≡ None
unfolding all
nothing = refl

pub nothing_signed : read_signed [] ≡ None
unfolding all
nothing_signed = refl

-- 1a
pub letter : read_number (49 ∷ 97 ∷ []) ≡ None
unfolding all
letter = refl

-- +1
pub plus : read_signed (43 ∷ 49 ∷ []) ≡ None
unfolding all
plus = refl

-- -
pub minus_alone : read_signed (45 ∷ []) ≡ None
unfolding all
minus_alone = refl

-- -0
pub minus_zero : read_signed (45 ∷ 48 ∷ []) ≡ None
unfolding all
minus_zero = refl

-- --1
pub two_minuses : read_signed (45 ∷ 45 ∷ 49 ∷ []) ≡ None
unfolding all
two_minuses = refl

-- 18446744073709551616
pub one_too_large : read_number (49 ∷ 56 ∷ 52 ∷ 52 ∷ 54 ∷ 55 ∷ 52 ∷ 52 ∷ 48 ∷ 55 ∷ 51 ∷ 55 ∷ 48 ∷ 57 ∷ 53 ∷ 53 ∷ 49 ∷ 54 ∷ 49 ∷ 54 ∷ []) ≡ None
unfolding all
one_too_large = refl

-- 9223372036854775808
pub one_too_large_signed : read_signed (57 ∷ 50 ∷ 50 ∷ 51 ∷ 51 ∷ 55 ∷ 50 ∷ 48 ∷ 51 ∷ 54 ∷ 56 ∷ 53 ∷ 52 ∷ 55 ∷ 55 ∷ 53 ∷ 56 ∷ 48 ∷ 56 ∷ []) ≡ None
unfolding all
one_too_large_signed = refl

-- NUMBERS

-- -9223372036854775808
pub read_least : read_signed (45 ∷ 57 ∷ 50 ∷ 50 ∷ 51 ∷ 51 ∷ 55 ∷ 50 ∷ 48 ∷ 51 ∷ 54 ∷ 56 ∷ 53 ∷ 52 ∷ 55 ∷ 55 ∷ 53 ∷ 56 ∷ 48 ∷ 56 ∷ [])
    ≡ Some (negsuc (2 ^ 63 - 1))
unfolding all
read_least = refl

pub read_0 : read_number (48 ∷ []) ≡ Some 0
unfolding all
read_0 = refl
