-- The text of a number, digit by digit.
use Prim.Native.Nat.{ℕ, zero, suc, ◌+◌, ◌/◌, ◌%◌, ◌^◌, ◌≤◌, ◌<◌}
use native.Mathlib.Omega.{arith}
use native.Mathlib.Nat.{div-lt_iff_lt-mul, zero-lt-suc, pow-suc}
use native.Mathlib.Numerals.{add-one}
use native.Mathlib.Decide.{dec_lt}
use mathlib.Core.Path.{◌≡◌, refl, sym, ap, subst, ◌∙◌}
use mathlib.Core.List.{List, [], ◌∷◌, ◌++◌}
use borrow.Author.Tests.{lt-ltb, le-ltb}
use lib.ListN.{length, get_or, take, length-append}
use lib.Seq.{take_at, get_or_at}
use Rattle.decimal.specs.Decimal.{longest_number, digit, digits_text, spelled, decimal_text}

-- one digit less
fewer : (k n : ℕ) → n < 10 ^ suc k → n / 10 < 10 ^ k
fewer k n h = (div-lt_iff_lt-mul (zero-lt-suc 9)).1 (subst (λ (x : ℕ). n < x) (pow-suc 10 k) h)

spelled_one : (k n : ℕ) → n < 10 → spelled (suc k) n ≡ digit n ∷ []
unfolding spelled
spelled_one k n h = rw (lt-ltb n 10 h)

spelled_more : (k n : ℕ) → 10 ≤ n → spelled (suc k) n ≡ spelled k (n / 10) ++ (digit (n % 10) ∷ [])
unfolding spelled
spelled_more k n h = rw (le-ltb n 10 h)

-- leave for one digit more changes nothing
spelled_same : (k n : ℕ) → n < 10 ^ suc k → spelled (suc k) n ≡ spelled (suc (suc k)) n
spelled_same zero n h = let l : n < 10 = h in spelled_one zero n l ∙ sym (spelled_one 1 n l)
spelled_same (suc k) n h =
    let ih = spelled_same k (n / 10) (fewer (suc k) n h) in
    elim (dec_lt n 10) [
      | yes p ↦ spelled_one (suc k) n p ∙ sym (spelled_one (suc (suc k)) n p)
      | no p ↦
          let l : 10 ≤ n = omega arith in
          spelled_more (suc k) n l ∙ ap (λ (t : List ℕ). t ++ (digit (n % 10) ∷ [])) ih ∙ sym (spelled_more (suc (suc k)) n l)
    ]

-- the two cases of the text of a number
pub decimal_one : (n : ℕ) → n < 10 → decimal_text n ≡ digit n ∷ []
unfolding decimal_text
decimal_one n h = spelled_one 19 n h

pub decimal_more : (n : ℕ) → 10 ≤ n → n < 10 ^ 20 → decimal_text n ≡ decimal_text (n / 10) ++ (digit (n % 10) ∷ [])
unfolding decimal_text
decimal_more n h b = spelled_more 19 n h ∙ ap (λ (t : List ℕ). t ++ (digit (n % 10) ∷ [])) (spelled_same 18 (n / 10) (fewer 19 n b))

-- what holds of the digits, and of a number with one digit more, holds of every number
module _ (P : ℕ → Type 0) (one : (n : ℕ) → n < 10 → P n) (more : (n : ℕ) → 10 ≤ n → n < 10 ^ 20 → P (n / 10) → P n) where
  up_to_all : (k n : ℕ) → n < 10 ^ suc k → n < 10 ^ 20 → P n
  up_to_all zero n h b = one n h
  up_to_all (suc k) n h b =
      let ih = up_to_all k (n / 10) (fewer (suc k) n h) (omega arith) in
      elim (dec_lt n 10) [ yes p ↦ one n p | no p ↦ more n (omega arith) b ih ]

  pub each_number : (n : ℕ) → n < 10 ^ 20 → P n
  each_number n b = up_to_all 19 n b b

-- LENGTHS

pub length_decimal : (k n : ℕ) → n < 10 ^ suc k → n < 10 ^ 20 → length (decimal_text n) ≤ suc k
length_decimal zero n h b = rw (decimal_one n h) (omega arith)
length_decimal (suc k) n h b =
    let ih = length_decimal k (n / 10) (fewer (suc k) n h) (omega arith) in
    elim (dec_lt n 10) [
      | yes p ↦ rw (decimal_one n p) (omega arith)
      | no p ↦ rw (decimal_more n (omega arith) b) (omega (arith, length-append (decimal_text (n / 10)) (digit (n % 10) ∷ [])))
    ]

pub length_u64 : (n : ℕ) → n < 2 ^ 64 → length (decimal_text n) ≤ longest_number
length_u64 n h = length_decimal 19 n (omega arith) (omega arith)

pub length_u32 : (n : ℕ) → n < 2 ^ 32 → length (decimal_text n) ≤ 10
length_u32 n h = length_decimal 9 n (omega arith) (omega arith)

pub length_digits : (k n : ℕ) → length (digits_text k n) ≡ k
unfolding digits_text
length_digits zero n = refl
length_digits (suc k) n = let ih = length_digits k (n / 10) in omega (arith, length-append (digits_text k (n / 10)) (digit (n % 10) ∷ []))

-- a digit more, where the digits are counted
pub length_more : (n : ℕ) → 10 ≤ n → n < 10 ^ 20 → length (decimal_text n) ≡ length (decimal_text (n / 10)) + 1
length_more n h b = ap length (decimal_more n h b) ∙ length-append (decimal_text (n / 10)) (digit (n % 10) ∷ [])

-- the text of a number is as many of its digits as it has
abbrev AllDigits : ℕ → Type 0
AllDigits n = digits_text (length (decimal_text n)) n ≡ decimal_text n

pub digits_all : (n : ℕ) → n < 10 ^ 20 → AllDigits n
unfolding digits_text
digits_all = each_number AllDigits one more
  where
    one : (n : ℕ) → n < 10 → AllDigits n
    one n h = let m : n % 10 ≡ n = omega arith in rw (decimal_one n h, m)

    more : (n : ℕ) → 10 ≤ n → n < 10 ^ 20 → AllDigits (n / 10) → AllDigits n
    more n h b ih = rw (length_more n h b, add-one, ih, decimal_more n h b)

-- EVERY BYTE

-- all bytes of a text are digits
abbrev pub OnlyDigits : List ℕ → Type 0
OnlyDigits t = (i : ℕ) → i < length t → (digit 0 ≤ get_or t i 0) × (get_or t i 0 ≤ digit 9)

digit_only : (d : ℕ) → d < 10 → OnlyDigits (digit d ∷ [])
digit_only d h zero k = (omega arith, omega arith)
digit_only d h (suc i) k = absurd (omega arith)

digits_then : (s t : List ℕ) → OnlyDigits s → OnlyDigits t → OnlyDigits (s ++ t)
digits_then [] t a b i k = b i k
digits_then (x ∷ s) t a b zero k = a zero (omega arith)
digits_then (x ∷ s) t a b (suc i) k = digits_then s t (λ j l. a (suc j) (omega arith)) b i (omega arith)

pub only_digits : (n : ℕ) → n < 10 ^ 20 → OnlyDigits (decimal_text n)
only_digits = each_number (λ n. OnlyDigits (decimal_text n)) one more
  where
    one : (n : ℕ) → n < 10 → OnlyDigits (decimal_text n)
    one n h = rw (decimal_one n h) (digit_only n h)

    more : (n : ℕ) → 10 ≤ n → n < 10 ^ 20 → OnlyDigits (decimal_text (n / 10)) → OnlyDigits (decimal_text n)
    more n h b ih = rw (decimal_more n h b) (digits_then (decimal_text (n / 10)) (digit (n % 10) ∷ []) ih (digit_only (n % 10) (omega arith)))

pub only_digits_fixed : (k n : ℕ) → OnlyDigits (digits_text k n)
unfolding digits_text
only_digits_fixed zero n i h = absurd (omega arith)
only_digits_fixed (suc k) n i h =
    let ih = only_digits_fixed k (n / 10) in
    digits_then (digits_text k (n / 10)) (digit (n % 10) ∷ []) ih (digit_only (n % 10) (omega arith)) i h

-- the digits before the last, and the last
first_digits : (k n : ℕ) → take k (digits_text (suc k) n) ≡ digits_text k (n / 10)
unfolding digits_text
first_digits k n = take_at (digits_text k (n / 10)) (digit (n % 10) ∷ []) k (length_digits k (n / 10))

last_digit : (k n : ℕ) → get_or (digits_text (suc k) n) k 0 ≡ digit (n % 10)
unfolding digits_text
last_digit k n = get_or_at (digits_text k (n / 10)) (digit (n % 10)) [] 0 k (length_digits k (n / 10))

-- no two numbers have the same k digits
pub one_digits : (k m n : ℕ) → m < 10 ^ k → n < 10 ^ k → digits_text k m ≡ digits_text k n → m ≡ n
one_digits zero m n h l e = omega arith
one_digits (suc k) m n h l e =
    let a = sym (first_digits k m) ∙ ap (take k) e ∙ first_digits k n in
    let b = sym (last_digit k m) ∙ ap (λ (t : List ℕ). get_or t k 0) e ∙ last_digit k n in
    let q : m / 10 ≡ n / 10 = one_digits k (m / 10) (n / 10) (fewer k m h) (fewer k n l) a in
    omega arith
