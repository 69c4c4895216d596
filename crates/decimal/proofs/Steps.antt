-- What the steps of the readers find.
use native.Mathlib.Decide.{dec_lt}
use Prim.Native.Nat.{ℕ, zero, suc, ◌+◌, ◌-◌, ◌*◌, ◌^◌, ◌≤◌, ◌<◌}
use native.Mathlib.Omega.{arith}
use native.Mathlib.Numerals.{add-one}
use mathlib.Core.Path.{◌≡◌, refl, sym, ap, ◌∙◌}
use mathlib.Core.Bool.{Bool, true, false, not, ◌&&◌}
use mathlib.Core.List.{List, [], ◌∷◌}
use borrow.Author.Tests.{lt-ltb, le-ltb}
use lib.Dec.{eqb}
use Rattle.std.specs.Cmp.Lexicographic.{pointwise}
use lib.IntN.{negsuc, +ℤ_idl}
use lib.ListN.{length, get_or, take, drop, drop_of_length-le}
use lib.Seq.{drop-cons}
use mir.Syntax.{w64}
use mir.Val.{SFits}
use Rattle.decimal.specs.Decimal.{minus}
use Rattle.decimal.specs.Reading.{no_leading_zero, next_of, read_on, read_number, as_natural, as_negative, read_signed}
use Rattle.decimal.proofs.Reading.{next_large, next_is, plain_two, on_one, on_none}
use Rattle.std.specs.Prelude.{ℤ, pos, ◌-ℤ◌, Option, Some, None, SomeIff, OkIff}
use Rattle.std.specs.declared.result.Result.{Result}
use Rattle.std.specs.declared.result.Result.TheVariants.{Ok, Err}
use Rattle.std.specs.Result.{result_ok}

-- PLAIN TEXT

pub plain_empty : (t : List ℕ) → length t ≡ 0 → no_leading_zero t ≡ false
unfolding no_leading_zero
plain_empty [] h = refl
plain_empty (b ∷ t) h = absurd (omega arith)

pub plain_one : (t : List ℕ) → length t ≡ 1 → no_leading_zero t ≡ true
unfolding no_leading_zero
plain_one [] h = absurd (omega arith)
plain_one (b ∷ []) h = refl
plain_one (b ∷ c ∷ t) h = absurd (omega arith)

pub plain_longer : (t : List ℕ) → 2 ≤ length t → no_leading_zero t ≡ not (eqb (get_or t 0 0) 48)
plain_longer [] h = absurd (omega arith)
plain_longer (b ∷ []) h = absurd (omega arith)
plain_longer (b ∷ c ∷ t) h = plain_two b c t

-- BYTE AFTER BYTE

pub number_plain : (t : List ℕ) → no_leading_zero t ≡ true → read_number t ≡ read_on (Some 0) t
unfolding read_number
number_plain t p = rw p

pub number_not : (t : List ℕ) → no_leading_zero t ≡ false → read_number t ≡ None
unfolding read_number
number_not t p = rw p

-- one byte more
pub read_more : (t : List ℕ) (a : Option ℕ) (i : ℕ) → i < length t → read_on a (drop i t) ≡ read_on (next_of a (get_or t i 0)) (drop (i + 1) t)
read_more t a i h = rw (drop-cons t i 0 h, add-one i) (on_one a (get_or t i 0) (drop (suc i) t))

-- all bytes
pub read_all : (t : List ℕ) (a : Option ℕ) (i : ℕ) → length t ≤ i → read_on a (drop i t) ≡ a
read_all t a i h = rw (drop_of_length-le t {i = i} h) (on_none a)

-- one byte more, as the library multiplies and adds
pub no_product : (n b : ℕ) → 48 ≤ b → b ≤ 57 → (n * 10 < 2 ^ 64 → ⊥) → next_of (Some n) b ≡ None
no_product n b l h s = elim (dec_lt (n * 10) (2 ^ 64)) [ yes p ↦ absurd (s p) | no p ↦ next_large n b l h (omega arith) ]

pub added : (n b : ℕ) {x y : ℕ} (r : Option ℕ) → 48 ≤ b → b ≤ 57 → x ≡ n * 10 → y ≡ b - 48 → SomeIff r (x + y < 2 ^ 64) (x + y) → r ≡ next_of (Some n) b
added n b {x} {y} None l h e f s = elim (dec_lt (x + y) (2 ^ 64)) [ yes p ↦ absurd (s p) | no p ↦ sym (next_large n b l h (omega arith)) ]
added n b {x} {y} (Some m) l h e f s =
    let k : m ≡ 10 * n + (b - 48) = omega (arith, s.1) in
    ap (λ (z : ℕ). Some z) k ∙ sym (next_is n b l h (omega (arith, s.0)))

-- SIGNS

-- a number as an i64, as the library converts it
pub tried : {E : Type 0} (n : ℕ) (r : Result ℤ E) → OkIff r (SFits w64 (pos n)) (pos n) → result_ok r ≡ as_natural (Some n)
unfolding as_natural
tried n (Ok z) s =
    let h = s.0.sfits in
    rw (lt-ltb n (2 ^ 63) h) (ap (λ (k : ℤ). Some k) s.1)
tried n (Err e) s = elim (dec_lt n (2 ^ 63)) [ yes p ↦ absurd (s (record { sfits = p })) | no p ↦ rw (le-ltb n (2 ^ 63) (omega arith)) ]

-- a number behind a minus, as the library subtracts it from 0
pub subtracted : (n : ℕ) (r : Option ℤ) → 0 < n → SomeIff r (SFits w64 (pos 0 -ℤ pos n)) (pos 0 -ℤ pos n) → r ≡ as_negative (Some n)
unfolding as_negative
subtracted zero r p s = absurd (omega arith)
subtracted (suc n) (Some z) p s =
    let f : SFits w64 (negsuc n) = rw (+ℤ_idl (negsuc n)) at s.0 in
    let h = f.sfits in
    rw (lt-ltb n (2 ^ 63) h) (ap (λ (k : ℤ). Some k) (s.1 ∙ +ℤ_idl (negsuc n)))
subtracted (suc n) None p s = elim (dec_lt n (2 ^ 63)) [ yes q ↦ absurd (s (let z : SFits w64 (negsuc n) = record { sfits = q } in rw (+ℤ_idl (negsuc n)) z)) | no q ↦ rw (le-ltb n (2 ^ 63) (omega arith)) ]

-- THE FIRST BYTE

-- whether it is c
pub first_byte : (b c : ℕ) (t : List ℕ) → pointwise eqb (take 1 (b ∷ t)) (c ∷ []) ≡ eqb b c
first_byte b c t = go (eqb b c)
  where
    go : (t : Bool) → (t && true) ≡ t
    go true = refl
    go false = refl

-- a minus, and what is behind it
pub signed_behind : (t : List ℕ) {d : List ℕ} → pointwise eqb (take 1 t) (minus ∷ []) ≡ true → d ≡ drop 1 t → read_signed t ≡ as_negative (read_number d)
unfolding read_signed
signed_behind [] h e = absurd (let o : ◌≡◌ {A = ℕ} 0 1 = cc in omega arith)
signed_behind (b ∷ t) h e = rw (e, sym (first_byte b minus t) ∙ h)

-- no byte, or another one
pub signed_whole : (t : List ℕ) → pointwise eqb (take 1 t) (minus ∷ []) ≡ false → read_signed t ≡ as_natural (read_number t)
unfolding read_signed as_natural read_number no_leading_zero
signed_whole [] h = refl
signed_whole (b ∷ t) h = rw (sym (first_byte b minus t) ∙ h)
