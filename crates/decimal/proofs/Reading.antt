-- A number is read from its text, and from no other.
use Prim.Native.Nat.{ℕ, zero, suc, ◌+◌, ◌-◌, ◌*◌, ◌/◌, ◌%◌, ◌^◌, ◌≤◌, ◌<◌}
use native.Mathlib.Omega.{arith}
use native.Mathlib.Decide.{dec_lt, ℕ_discrete}
use mathlib.Core.Path.{◌≡◌, refl, sym, ap, ◌∙◌}
use mathlib.Core.Bool.{Bool, true, false, cond, not}
use mathlib.Core.Logic.{◌⊎◌, inl, inr, ⊎_elim}
use mathlib.Core.List.{List, [], ◌∷◌, ◌++◌, append_assoc, append-nil}
use borrow.Author.Tests.{lt-ltb, le-ltb, le-leb, lt-leb, eq-eqb, ne_eqb, eqb-false, not-true, ltb-true}
use lib.Dec.{ltb, eqb}
use lib.ListN.{get_or}
use lib.IntN.{ℤ, pos, negsuc}
use mir.Syntax.{w64}
use mir.Val.{SFits}
use Rattle.decimal.specs.Decimal.{digit, minus, decimal_text, signed_text}
use Rattle.decimal.specs.Reading.{no_leading_zero, next_of, read_on, read_number, as_natural, as_negative, read_signed}
use Rattle.decimal.proofs.Digits.{decimal_one, decimal_more, each_number}
use Rattle.std.specs.Prelude.{Option, Some, None}

-- ONE BYTE

pub next_low : (n b : ℕ) → b < 48 → next_of (Some n) b ≡ None
unfolding next_of
next_low n b h = rw (lt-leb 48 b h)

pub next_high : (n b : ℕ) → 48 ≤ b → 57 < b → next_of (Some n) b ≡ None
unfolding next_of
next_high n b l h = rw (le-leb 48 b l, lt-leb b 57 h)

pub next_large : (n b : ℕ) → 48 ≤ b → b ≤ 57 → 2 ^ 64 ≤ 10 * n + (b - 48) → next_of (Some n) b ≡ None
unfolding next_of
next_large n b l h w = rw (le-leb 48 b l, le-leb b 57 h, le-ltb (10 * n + (b - 48)) (2 ^ 64) w)

pub next_is : (n b : ℕ) → 48 ≤ b → b ≤ 57 → 10 * n + (b - 48) < 2 ^ 64 → next_of (Some n) b ≡ Some (10 * n + (b - 48))
unfolding next_of
next_is n b l h w = rw (le-leb 48 b l, le-leb b 57 h, lt-ltb (10 * n + (b - 48)) (2 ^ 64) w)

-- a byte that is taken
record Taken (n b : ℕ) : Type 0 where
  low : 48 ≤ b
  high : b ≤ 57
  fits : 10 * n + (b - 48) < 2 ^ 64
  is : next_of (Some n) b ≡ Some (10 * n + (b - 48))

taken_or_not : (n b : ℕ) → (next_of (Some n) b ≡ None) ⊎ Taken n b
taken_or_not n b = elim (dec_lt b 48) [
  | yes p ↦ inl (next_low n b p)
  | no p ↦ elim (dec_lt 57 b) [
    | yes q ↦ inl (next_high n b (omega arith) q)
    | no q ↦ elim (dec_lt (10 * n + (b - 48)) (2 ^ 64)) [
      | yes r ↦ let l : 48 ≤ b = omega arith in let h : b ≤ 57 = omega arith in inr (record { low = l; high = h; fits = r; is = next_is n b l h r })
      | no r ↦ inl (next_large n b (omega arith) (omega arith) (omega arith))
    ]
  ]
]

-- BYTE AFTER BYTE

pub on_not : (t : List ℕ) → read_on None t ≡ None
unfolding read_on next_of
on_not [] = refl
on_not (b ∷ t) = on_not t

on_append : (a : Option ℕ) (s t : List ℕ) → read_on a (s ++ t) ≡ read_on (read_on a s) t
unfolding read_on
on_append a [] t = refl
on_append a (b ∷ s) t = on_append (next_of a b) s t

pub on_one : (a : Option ℕ) (b : ℕ) (t : List ℕ) → read_on a (b ∷ t) ≡ read_on (next_of a b) t
unfolding read_on
on_one a b t = refl

pub on_none : (a : Option ℕ) → read_on a [] ≡ a
unfolding read_on
on_none a = refl

-- the digits of a number say it
abbrev DigitsSay : ℕ → Type 0
DigitsSay n = n < 2 ^ 64 → read_on (Some 0) (decimal_text n) ≡ Some n

digits_say : (n : ℕ) → n < 10 ^ 20 → DigitsSay n
digits_say = each_number DigitsSay one more
  where
    one : (n : ℕ) → n < 10 → DigitsSay n
    one n h w =
        let e : 10 * 0 + (48 + n - 48) ≡ n = omega arith in
        rw (decimal_one n h, on_one (Some 0) (48 + n) [], next_is 0 (48 + n) (omega arith) (omega arith) (omega arith), e, on_none (Some n))

    more : (n : ℕ) → 10 ≤ n → n < 10 ^ 20 → DigitsSay (n / 10) → DigitsSay n
    more n h b ih w =
        let d : List ℕ = digit (n % 10) ∷ [] in
        let e : 10 * (n / 10) + (48 + n % 10 - 48) ≡ n = omega arith in
        ap (read_on (Some 0)) (decimal_more n h b)
        ∙ on_append (Some 0) (decimal_text (n / 10)) d
        ∙ ap (λ (a : Option ℕ). read_on a d) (ih (omega arith))
        ∙ on_one (Some (n / 10)) (48 + n % 10) []
        ∙ on_none (next_of (Some (n / 10)) (48 + n % 10))
        ∙ next_is (n / 10) (48 + n % 10) (omega arith) (omega arith) (omega arith)
        ∙ ap (λ (k : ℕ). Some k) e

-- THE FIRST BYTE

first_append : (k : ℕ) (s t : List ℕ) → k < get_or s 0 0 → get_or (s ++ t) 0 0 ≡ get_or s 0 0
first_append k [] t h = absurd (omega arith)
first_append k (b ∷ s) t h = refl

-- a number begins with a digit, and one above 0 with another than 0
abbrev Begins : ℕ → Type 0
Begins n = (48 ≤ get_or (decimal_text n) 0 0) × (0 < n → 48 < get_or (decimal_text n) 0 0)

first_digit : (n : ℕ) → n < 10 ^ 20 → Begins n
first_digit = each_number Begins one more
  where
    one : (n : ℕ) → n < 10 → Begins n
    one n h = rw (decimal_one n h) (omega arith, λ p. omega arith)

    more : (n : ℕ) → 10 ≤ n → n < 10 ^ 20 → Begins (n / 10) → Begins n
    more n h b ih =
        let i = ih.1 (omega arith) in
        let e : get_or (decimal_text n) 0 0 ≡ get_or (decimal_text (n / 10)) 0 0 =
        ap (λ (t : List ℕ). get_or t 0 0) (decimal_more n h b) ∙ first_append 48 (decimal_text (n / 10)) (digit (n % 10) ∷ []) i in
        (omega arith, λ p. omega arith)

pub plain_two : (b c : ℕ) (t : List ℕ) → no_leading_zero (b ∷ c ∷ t) ≡ not (eqb b 48)
unfolding no_leading_zero
plain_two b c t = refl

plain_above : (t : List ℕ) → 48 < get_or t 0 0 → no_leading_zero t ≡ true
unfolding no_leading_zero
plain_above [] h = absurd (omega arith)
plain_above (b ∷ []) h = refl
plain_above (b ∷ c ∷ t) h = rw (ne_eqb b 48 (λ e. omega arith))

plain_decimal : (n : ℕ) → n < 10 ^ 20 → no_leading_zero (decimal_text n) ≡ true
unfolding no_leading_zero
plain_decimal n b = elim (dec_lt n 10) [
  | yes p ↦ rw (decimal_one n p)
  | no p ↦ plain_above (decimal_text n) ((first_digit n b).1 (omega arith))
]

-- WHAT WAS WRITTEN IS READ

pub read_written : (n : ℕ) → n < 2 ^ 64 → read_number (decimal_text n) ≡ Some n
unfolding read_number
read_written n h = rw (plain_decimal n (omega arith)) (digits_say n (omega arith) h)

-- no two numbers have the same text
pub one_text : (m n : ℕ) → m < 2 ^ 64 → n < 2 ^ 64 → decimal_text m ≡ decimal_text n → m ≡ n
one_text m n h k e =
    let p : Some m ≡ Some n = sym (read_written m h) ∙ ap read_number e ∙ read_written n k in
    cc

-- NOTHING ELSE IS READ

-- a text that says n, a number below 2 ^ 64
record Says (t : List ℕ) (n : ℕ) : Type 0 where
  pub below : n < 2 ^ 64
  pub is_text : t ≡ decimal_text n

-- where nothing is read on
never_on : (n : ℕ) (a : Option ℕ) (t : List ℕ) {X : Type 0} → a ≡ None → read_on a t ≡ Some n → X
never_on n a t x e =
    let z : None ≡ Some n = sym (on_not t) ∙ ap (λ (c : Option ℕ). read_on c t) (sym x) ∙ e in
    let o : ◌≡◌ {A = ℕ} 0 1 = cc in
    absurd (omega arith)

-- a digit behind a number above 0
digit_behind : (m b : ℕ) → 0 < m → Taken m b → decimal_text m ++ (b ∷ []) ≡ decimal_text (10 * m + (b - 48))
digit_behind m b p x =
    let n : ℕ = 10 * m + (b - 48) in
    let l = x.low in
    let h = x.high in
    let w = x.fits in
    let q : (10 * m + (b - 48)) / 10 ≡ m = omega arith in
    let r : 48 + (10 * m + (b - 48)) % 10 ≡ b = omega arith in
    sym (decimal_more (10 * m + (b - 48)) (omega arith) (omega arith) ∙ rw (q, r))

-- a number above 0 is written, and what is read on is n
says_on : (t : List ℕ) (m n : ℕ) → 0 < m → m < 2 ^ 64 → read_on (Some m) t ≡ Some n → Says (decimal_text m ++ t) n
says_on [] m n p w e =
    let z : Some m ≡ Some n = sym (on_none (Some m)) ∙ e in
    let k : m ≡ n = cc in
    record { below = omega arith; is_text = append-nil (decimal_text m) ∙ ap decimal_text k }
says_on (b ∷ t) m n p w e =
    let o : read_on (next_of (Some m) b) t ≡ Some n = sym (on_one (Some m) b t) ∙ e in
    ⊎_elim (λ x. never_on n (next_of (Some m) b) t x o)
    (λ x.
    let s = says_on t (10 * m + (b - 48)) n (omega arith) x.fits (rw x.is at o) in
    let d = ap (λ (u : List ℕ). u ++ t) (digit_behind m b p x) in
    let a : decimal_text m ++ b ∷ t ≡ decimal_text (10 * m + (b - 48)) ++ t = sym (append_assoc (decimal_text m) (b ∷ []) t) ∙ d in
    record { below = s.below; is_text = a ∙ s.is_text })
    (taken_or_not m b)

-- the first byte is a digit
first_taken : (b n : ℕ) (t : List ℕ) → read_on (Some 0) (b ∷ t) ≡ Some n → Taken 0 b × (read_on (Some (b - 48)) t ≡ Some n)
first_taken b n t e =
    let o : read_on (next_of (Some 0) b) t ≡ Some n = sym (on_one (Some 0) b t) ∙ e in
    let z : 10 * 0 + (b - 48) ≡ b - 48 = omega arith in
    ⊎_elim (λ x. never_on n (next_of (Some 0) b) t x o) (λ x. (x, rw z at (rw x.is at o))) (taken_or_not 0 b)

first_is : (b : ℕ) → Taken 0 b → decimal_text (b - 48) ≡ b ∷ []
first_is b x =
    let l = x.low in
    let h = x.high in
    let k : 48 + (b - 48) ≡ b = omega arith in
    decimal_one (b - 48) (omega arith) ∙ ap (λ (d : ℕ). d ∷ []) k

-- nothing stands behind the first digit, or it is no 0
says_first : (b n : ℕ) (t : List ℕ) → no_leading_zero (b ∷ t) ≡ true → read_on (Some 0) (b ∷ t) ≡ Some n → Says (b ∷ t) n
says_first b n [] p e =
    let x = first_taken b n [] e in
    let z : Some (b - 48) ≡ Some n = sym (on_none (Some (b - 48))) ∙ x.1 in
    let k : b - 48 ≡ n = cc in
    let h = x.0.high in
    record { below = omega arith; is_text = sym (first_is b x.0) ∙ ap decimal_text k }
says_first b n (c ∷ t) p e =
    let x = first_taken b n (c ∷ t) e in
    let l = x.0.low in
    let h = x.0.high in
    let o = eqb-false b 48 (not-true (eqb b 48) (sym (plain_two b c t) ∙ p)) in
    let s = says_on (c ∷ t) (b - 48) n (above b l o) (omega arith) x.1 in
    record { below = s.below; is_text = ap (λ (u : List ℕ). u ++ c ∷ t) (sym (first_is b x.0)) ∙ s.is_text }
  where
    above : (b : ℕ) → 48 ≤ b → (b ≡ 48 → ⊥) → 0 < b - 48
    above b l o = elim (dec_lt 48 b) [ yes q ↦ omega arith | no q ↦ absurd (o (omega arith)) ]

-- a text that is no number
never_read : {n : ℕ} {X : Type 0} → None ≡ Some n → X
never_read {n} z = let o : ◌≡◌ {A = ℕ} 0 1 = cc in absurd (omega arith)

never_signed : {z : ℤ} {X : Type 0} → None ≡ Some z → X
never_signed {z} e = let o : ◌≡◌ {A = ℕ} 0 1 = cc in absurd (omega arith)

says : (t : List ℕ) (n : ℕ) → read_number t ≡ Some n → Says t n
unfolding read_number no_leading_zero
says [] n e = never_read e
says (b ∷ t) n e = go (no_leading_zero (b ∷ t)) refl e
  where
    go : (p : Bool) → no_leading_zero (b ∷ t) ≡ p → cond p (read_on (Some 0) (b ∷ t)) None ≡ Some n → Says (b ∷ t) n
    go true p e = says_first b n t p e
    go false p e = never_read e

-- what is read as a number is its text, and the number is below 2 ^ 64
pub written_read : (t : List ℕ) (n : ℕ) → read_number t ≡ Some n → t ≡ decimal_text n
written_read t n e = (says t n e).is_text

pub read_below : (t : List ℕ) (n : ℕ) → read_number t ≡ Some n → n < 2 ^ 64
read_below t n e = (says t n e).below

-- WITH A SIGN

pub signed_none : read_signed [] ≡ None
unfolding read_signed
signed_none = refl

pub signed_minus : (b : ℕ) (t : List ℕ) → b ≡ minus → read_signed (b ∷ t) ≡ as_negative (read_number t)
unfolding read_signed
signed_minus b t e = rw (eq-eqb b 45 e)

pub signed_other : (b : ℕ) (t : List ℕ) → (b ≡ minus → ⊥) → read_signed (b ∷ t) ≡ as_natural (read_number (b ∷ t))
unfolding read_signed
signed_other b t e = rw (ne_eqb b 45 e)

signed_digit : (t : List ℕ) → 48 ≤ get_or t 0 0 → read_signed t ≡ as_natural (read_number t)
signed_digit [] h = absurd (omega arith)
signed_digit (b ∷ t) h = signed_other b t (λ e. omega arith)

-- what was written is read
pub read_written_signed : (z : ℤ) → SFits w64 z → read_signed (signed_text z) ≡ Some z
unfolding signed_text as_natural as_negative
read_written_signed (pos n) f =
    let h = f.sfits in
    signed_digit (decimal_text n) (first_digit n (omega arith)).0 ∙ ap as_natural (read_written n (omega arith)) ∙ rw (lt-ltb n (2 ^ 63) h)
read_written_signed (negsuc n) f =
    let h = f.sfits in
    signed_minus minus (decimal_text (suc n)) refl ∙ ap as_negative (read_written (suc n) (omega arith)) ∙ rw (lt-ltb n (2 ^ 63) h)

pub one_text_signed : (y z : ℤ) → SFits w64 y → SFits w64 z → signed_text y ≡ signed_text z → y ≡ z
one_text_signed y z f g e =
    let p : Some y ≡ Some z = sym (read_written_signed y f) ∙ ap read_signed e ∙ read_written_signed z g in
    cc

-- what is behind an i64 that was read
below_says : (n : ℕ) (y z : ℤ) → cond (ltb n (2 ^ 63)) (Some y) None ≡ Some z → (y ≡ z) × (n < 2 ^ 63)
below_says n y z e = go (ltb n (2 ^ 63)) refl e
  where
    go : (t : Bool) → ltb n (2 ^ 63) ≡ t → cond t (Some y) None ≡ Some z → (y ≡ z) × (n < 2 ^ 63)
    go true l e = let p : y ≡ z = cc in (p, ltb-true n (2 ^ 63) l)
    go false l e = never_signed e

natural_says : (a : Option ℕ) (z : ℤ) → as_natural a ≡ Some z → (n : ℕ) × (a ≡ Some n) × (pos n ≡ z) × (n < 2 ^ 63)
unfolding as_natural
natural_says None z e = never_signed e
natural_says (Some n) z e = let w = below_says n (pos n) z e in (n, refl, w.0, w.1)

negative_says : (a : Option ℕ) (z : ℤ) → as_negative a ≡ Some z → (n : ℕ) × (a ≡ Some (suc n)) × (negsuc n ≡ z) × (n < 2 ^ 63)
unfolding as_negative
negative_says None z e = never_signed e
negative_says (Some zero) z e = never_signed e
negative_says (Some (suc n)) z e = let w = below_says n (negsuc n) z e in (n, refl, w.0, w.1)

-- a text that says the i64 z
record SaysSigned (t : List ℕ) (z : ℤ) : Type 0 where
  pub fits : SFits w64 z
  pub is_text : t ≡ signed_text z

says_signed : (t : List ℕ) (z : ℤ) → read_signed t ≡ Some z → SaysSigned t z
unfolding signed_text
says_signed [] z e = never_signed (sym signed_none ∙ e)
says_signed (b ∷ t) z e = elim (ℕ_discrete b minus) [ yes p ↦ behind p | no p ↦ plainly p ]
  where
    behind : b ≡ minus → SaysSigned (b ∷ t) z
    behind p =
        let w = negative_says (read_number t) z (sym (signed_minus b t p) ∙ e) in
        let s : b ∷ t ≡ minus ∷ decimal_text (suc w.0) = ap (λ (x : ℕ). x ∷ t) p ∙ ap (λ (u : List ℕ). minus ∷ u) (written_read t (suc w.0) w.1) in
        let r : SaysSigned (b ∷ t) (negsuc w.0) = record { fits = record { sfits = w.3 }; is_text = s } in
        rw w.2 at r

    plainly : (b ≡ minus → ⊥) → SaysSigned (b ∷ t) z
    plainly p =
        let w = natural_says (read_number (b ∷ t)) z (sym (signed_other b t p) ∙ e) in
        let s : b ∷ t ≡ decimal_text w.0 = written_read (b ∷ t) w.0 w.1 in
        let r : SaysSigned (b ∷ t) (pos w.0) = record { fits = record { sfits = w.3 }; is_text = s } in
        rw w.2 at r

-- what is read as an i64 is its text, and it is an i64
pub written_read_signed : (t : List ℕ) (z : ℤ) → read_signed t ≡ Some z → t ≡ signed_text z
written_read_signed t z e = (says_signed t z e).is_text

pub read_fits : (t : List ℕ) (z : ℤ) → read_signed t ≡ Some z → SFits w64 z
read_fits t z e = (says_signed t z e).fits
