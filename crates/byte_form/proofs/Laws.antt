-- Numbers and keys as bytes, there and back.
use Prim.Native.Nat.{ℕ, zero, suc, ◌+◌, ◌-◌, ◌*◌, ◌/◌, ◌%◌, ◌^◌, ◌≤◌, ◌<◌, zero-le}
use native.Mathlib.Nat.{div-div-eq-div-mul, le_antisymm, le_of_suc-le-suc, div-lt_iff_lt-mul, zero-lt-suc, pow-suc, mod-add-div}
use native.Mathlib.Omega.{arith}
use mathlib.Core.Path.{◌≡◌, refl, sym, ap, subst, ◌∙◌}
use mathlib.Core.List.{List, [], ◌∷◌}
use borrow.Author.Tests.{lt-ltb, le-ltb}
use lib.ListN.{length, take, drop, length-drop}
use lib.Seq.{get_or-drop, length-take-le}
use lib.IntN.{ℤ, negsuc, ◌+ℤ◌}
use mir.Syntax.{w64}
use mir.Val.{SFits, to_z, of_z}
use mir.Facts.{to_z-of_z, of_z-to_z, Fits-of_z}
use Rattle.std.specs.Int.{w32, bytes_low_first, from_le_bytes}
use Rattle.byte_form.specs.Bytes.{u32_size, i64_size, bytes_of, number_in, key_bytes, key_of, Bytes}

-- NUMBERS

pub length_bytes : (k n : ℕ) → length (bytes_of k n) ≡ k
unfolding bytes_of
length_bytes zero n = refl
length_bytes (suc k) n = ap suc (length_bytes k (n / 256))

-- a number that fits is that of its bytes
pub number_bytes : (k n : ℕ) → n < 256 ^ k → number_in (bytes_of k n) ≡ n
unfolding bytes_of number_in
number_bytes zero n h = sym (le_antisymm (le_of_suc-le-suc h) zero-le)
number_bytes (suc k) n h =
    let below : n / 256 < 256 ^ k = (div-lt_iff_lt-mul (zero-lt-suc 255)).1 (subst (λ (x : ℕ). n < x) (pow-suc 256 k) h) in
    let ih : number_in (bytes_of k (n / 256)) ≡ n / 256 = number_bytes k (n / 256) below in
    rw ih (mod-add-div n 256)

-- bytes are those of their number
pub bytes_number_lem : (bs : List ℕ) → Bytes bs → bytes_of (length bs) (number_in bs) ≡ bs
unfolding bytes_of number_in
bytes_number_lem [] h = refl
bytes_number_lem (b ∷ bs) h =
    let ih = bytes_number_lem bs (λ k. h (suc k)) in
    let l = h 0 in
    let d : (b + 256 * number_in bs) / 256 ≡ number_in bs = omega arith in
    let m : (b + 256 * number_in bs) % 256 ≡ b = omega arith in
    rw (d, m, ih)

pub number_below : (bs : List ℕ) → Bytes bs → number_in bs < 256 ^ length bs
unfolding number_in
number_below [] h = zero-lt-suc 0
number_below (b ∷ bs) h =
    let ih = number_below bs (λ k. h (suc k)) in
    let l = h 0 in
    let p = pow-suc 256 (length bs) in
    omega arith

-- AS THE LIBRARY HAS THEM: k bytes of a number, from byte i on
low_first : (i k n : ℕ) → bytes_low_first i k n ≡ bytes_of k (n / 256 ^ i)
unfolding bytes_of
low_first i zero n = refl
low_first zero (suc k) n =
    let d : n / 256 ^ 0 ≡ n = omega arith in
    rw (d, low_first 1 k n)
low_first (suc i) (suc k) n =
    let d : n / 256 ^ suc (suc i) ≡ n / 256 ^ suc i / 256 = ap (λ (p : ℕ). n / p) (pow-suc 256 (suc i)) ∙ sym (div-div-eq-div-mul n (256 ^ suc i) 256) in
    rw (low_first (suc (suc i)) k n, d)

-- what `to_le_bytes` gives
pub bytes_low : (k n : ℕ) → bytes_low_first 0 k n ≡ bytes_of k n
bytes_low k n = let d : n / 256 ^ 0 ≡ n = omega arith in low_first 0 k n ∙ ap (bytes_of k) d

-- the k bytes at a place are k
pub length_part : (k at : ℕ) (l : List ℕ) → at + k ≤ length l → length (take k (drop at l)) ≡ k
length_part k at l h = length-take-le k (drop at l) (omega (arith, length-drop at l))

-- what `from_le_bytes` gives
pub number_low4 : (bs : List ℕ) → length bs ≡ u32_size → from_le_bytes w32 bs ≡ number_in bs
unfolding number_in
number_low4 (a ∷ b ∷ c ∷ d ∷ []) l = omega arith
number_low4 bs l = absurd (omega arith)

pub number_low8 : (bs : List ℕ) → length bs ≡ i64_size → from_le_bytes w64 bs ≡ number_in bs
unfolding number_in
number_low8 (a ∷ b ∷ c ∷ d ∷ e ∷ f ∷ g ∷ h ∷ []) l = omega arith
number_low8 bs l = absurd (omega arith)

-- KEYS

-- the key of bits from 2 ^ 63 on, as code computes it
pub key_negative : (n : ℕ) → 2 ^ 63 ≤ n → n < 2 ^ 64 → to_z w64 (n - 2 ^ 63) +ℤ negsuc (2 ^ 63 - 1) ≡ to_z w64 n
key_negative n h b =
    let e : 2 ^ 63 - suc (n - 2 ^ 63) ≡ 2 ^ 64 - suc n = omega arith in
    rw (lt-ltb (n - 2 ^ 63) (2 ^ 63) (omega arith), le-ltb n (2 ^ 63) h) (rw (lt-ltb (n - 2 ^ 63) (2 ^ 63) (omega arith)) (ap negsuc e))

-- a key is that of its bytes
pub key_back : {z : ℤ} → SFits w64 z → key_of (key_bytes z) ≡ z
key_back {z} f = rw (number_bytes i64_size (of_z w64 z) (Fits-of_z f).fits) (to_z-of_z f)

-- its bytes are those of their key
pub key_again : (bs : List ℕ) → Bytes bs → length bs ≡ i64_size → key_bytes (key_of bs) ≡ bs
key_again bs b e =
    let l : number_in bs < 2 ^ 64 = rw e at (number_below bs b) in
    let n : bytes_of i64_size (number_in bs) ≡ bs = rw e at (bytes_number_lem bs b) in
    rw (of_z-to_z {w = w64} {n = number_in bs} (record { fits = l })) n

-- a part of bytes is bytes
pub bytes_drop : (n : ℕ) (bs : List ℕ) → Bytes bs → Bytes (drop n bs)
bytes_drop n bs b k = rw (get_or-drop n bs k 0) (b (n + k))

pub bytes_take : (n : ℕ) (bs : List ℕ) → Bytes bs → Bytes (take n bs)
bytes_take zero bs b k = zero-lt-suc 255
bytes_take (suc n) [] b k = zero-lt-suc 255
bytes_take (suc n) (x ∷ bs) b zero = b 0
bytes_take (suc n) (x ∷ bs) b (suc k) = bytes_take n bs (λ j. b (suc j)) k
