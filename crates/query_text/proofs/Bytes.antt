-- What comes next in bytes that are lent, in the reader's terms.
use Prim.Native.Nat.{ℕ, ◌+◌, ◌≤◌, ◌<◌}
use native.Mathlib.Numerals.{add-one}
use mathlib.Core.Path.{◌≡◌}
use mathlib.Core.Bool.{true, false, ◌&&◌}
use mathlib.Core.List.{List}
use native.Mathlib.Omega.{arith}
use native.Mathlib.Decide.{dec_lt}
use lib.Dec.{eqb, leb}
use lib.ListN.{length, drop, get_or, drop_of_length-le}
use lib.Seq.{drop-cons}
use Rattle.query_text.specs.Reader.{starts, behind}
use Rattle.query_text.specs.InnerCursor.{starts_digit}

pub at_end : (bytes : List ℕ) (i x : ℕ) → length bytes ≤ i → starts x (drop i bytes) ≡ false
at_end bytes i x h = rw (drop_of_length-le bytes {i = i} h)

pub not_end : (bytes : List ℕ) (i x : ℕ) → i < length bytes → starts x (drop i bytes) ≡ eqb (get_or bytes i 0) x
not_end bytes i x h = rw (drop-cons bytes i 0 h)

pub no_digit_at_end : (bytes : List ℕ) (i : ℕ) → length bytes ≤ i → starts_digit (drop i bytes) ≡ false
no_digit_at_end bytes i h = rw (drop_of_length-le bytes {i = i} h)

pub digit_here : (bytes : List ℕ) (i : ℕ) → i < length bytes → starts_digit (drop i bytes) ≡ (leb 48 (get_or bytes i 0) && leb (get_or bytes i 0) 57)
digit_here bytes i h = rw (drop-cons bytes i 0 h)

-- where something comes next, the cursor is before the end; and what comes behind it is what comes at the next place
pub seen : (bytes : List ℕ) (i x : ℕ) → starts x (drop i bytes) ≡ true → i < length bytes
seen bytes i x e = elim (dec_lt i (length bytes)) [
  | yes p ↦ p
  | no p ↦ let f = at_end bytes i x (omega arith) in let z : ◌≡◌ {A = ℕ} 0 1 = cc in absurd (omega arith)
]

pub digit_seen : (bytes : List ℕ) (i : ℕ) → starts_digit (drop i bytes) ≡ true → i < length bytes
digit_seen bytes i e = elim (dec_lt i (length bytes)) [
  | yes p ↦ p
  | no p ↦ let f = no_digit_at_end bytes i (omega arith) in let z : ◌≡◌ {A = ℕ} 0 1 = cc in absurd (omega arith)
]

pub past : (bytes : List ℕ) (i : ℕ) → i < length bytes → behind (drop i bytes) ≡ drop (i + 1) bytes
past bytes i h = rw (drop-cons bytes i 0 h, add-one i)
