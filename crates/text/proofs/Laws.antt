-- Laws of text put into lent bytes, for whoever puts one text behind another.
use Prim.Native.Nat.{ℕ, ◌+◌, ◌-◌, ◌≤◌, max}
use native.Mathlib.Omega.{arith}
use native.Mathlib.Nat.{add-zero}
use mathlib.Core.Path.{◌≡◌, refl, sym, ap, ◌∙◌}
use mathlib.Core.List.{List, [], ◌∷◌, ◌++◌, append_assoc}
use lib.ListN.{length, set, take, drop, replicate, length-append, length-replicate}
use borrow.Rule.Slice.PartMut.{put_mid}
use lib.Seq.{sets, sets-eq, length-sets, take_at, drop-drop}
use Rattle.byte_form.proofs.Stores.{sets_append}
use Rattle.text.specs.Text.{space, Adds, right_of, left_of}

-- no text changes nothing
pub adds_none : (out : List ℕ) (at : ℕ) → Adds [] out at out at
adds_none out at = record { upto = sym (add-zero at); puts = refl }

-- a text, and another behind it
pub adds_then : {s t out out₁ out₂ : List ℕ} {at r₁ r₂ : ℕ} → Adds s out at out₁ r₁ → Adds t out₁ r₁ out₂ r₂ → Adds (s ++ t) out at out₂ r₂
adds_then {s} {t} {out} {out₁} {out₂} {at} {r₁} {r₂} a b = record {
  upto = omega (arith, length-append s t);
  puts = b.puts ∙ ap (λ (o : List ℕ). sets o r₁ t) a.puts ∙ sets_append out at s t r₁ (sym a.upto);
}

-- a text, and one byte behind it: what a loop over bytes does
pub adds_byte : (v : ℕ) {s out out₁ : List ℕ} {at r : ℕ} → Adds s out at out₁ r → Adds (s ++ (v ∷ [])) out at (set out₁ r v) (r + 1)
adds_byte v a = adds_then a (record { upto = refl; puts = refl })

-- the same text by another name
pub adds_as : {s t out out₁ : List ℕ} {at r : ℕ} → s ≡ t → Adds s out at out₁ r → Adds t out at out₁ r
adds_as e a = rw e at a

-- as many bytes as before
pub adds_length : {s out out₁ : List ℕ} {at r : ℕ} → Adds s out at out₁ r → length out₁ ≡ length out
adds_length {s} {out} {out₁} {at} a = ap length a.puts ∙ length-sets out at s

-- the bytes afterwards: those before the text, the text, and those behind it
pub adds_eq : {s out out₁ : List ℕ} {at r : ℕ} → Adds s out at out₁ r → at + length s ≤ length out → out₁ ≡ take at out ++ s ++ drop r out
adds_eq {s} {out} {out₁} {at} {r} a h = a.puts ∙ sets-eq s out at h ∙ ap (λ (n : ℕ). take at out ++ s ++ drop n out) (sym a.upto)

-- a text at the start of lent bytes is their first r bytes
pub text_first : {s out out₁ : List ℕ} {r : ℕ} → Adds s out 0 out₁ r → length s ≤ length out → take r out₁ ≡ s
text_first {s} {out} {out₁} {r} a h = ap (take r) (adds_eq a (omega arith)) ∙ take_at s (drop r out) r (omega arith)

-- and there are that many
pub text_room_lem : {s out out₁ : List ℕ} {r : ℕ} → Adds s out 0 out₁ r → length s ≤ length out → r ≤ length out₁
text_room_lem a h = omega (arith, adds_length a)

-- COLUMNS

pub length_right : (w : ℕ) (t : List ℕ) → length (right_of w t) ≡ max w (length t)
unfolding right_of
length_right w t = omega (arith, length-append (replicate (w - length t) space) t, length-replicate (w - length t) space)

pub length_left : (w : ℕ) (t : List ℕ) → length (left_of w t) ≡ max w (length t)
unfolding left_of
length_left w t = omega (arith, length-append t (replicate (w - length t) space), length-replicate (w - length t) space)

-- the spaces, and the text
pub adds_right : (w : ℕ) (t : List ℕ) {out out₁ out₂ : List ℕ} {at n r₁ r₂ : ℕ} → n ≡ w - length t
    → Adds (replicate n space) out at out₁ r₁ → Adds t out₁ r₁ out₂ r₂ → Adds (right_of w t) out at out₂ r₂
unfolding right_of
adds_right w t e a b = adds_then (adds_as (ap (λ (n : ℕ). replicate n space) e) a) b

pub adds_left : (w : ℕ) (t : List ℕ) {out out₁ out₂ : List ℕ} {at n r₁ r₂ : ℕ} → n ≡ w - length t
    → Adds t out at out₁ r₁ → Adds (replicate n space) out₁ r₁ out₂ r₂ → Adds (left_of w t) out at out₂ r₂
unfolding left_of
adds_left w t e a b = adds_then a (adds_as (ap (λ (n : ℕ). replicate n space) e) b)

-- A PART OF THE LENT BYTES, n of them from `at` on, that holds a text of n bytes now
pub adds_mid : (t : List ℕ) {out ys : List ℕ} {at n : ℕ} → ys ≡ t → length t ≡ n → at + n ≤ length out → Adds t out at (put_mid at (at + n - at) out ys) (at + n)
adds_mid t {out} {ys} {at} {n} e l h =
    let k : at + (at + n - at) ≡ at + length t = omega arith in
    record { upto = omega arith; puts = rw (e, drop-drop (at + n - at) at out, k) (sym (sets-eq t out at (omega arith) ∙ append_assoc (take at out) t (drop (at + length t) out))) }

-- ONE OUTCOME: the place behind the text, and the lent bytes
pub adds_one : {t out out₁ out₂ : List ℕ} {at r₁ r₂ : ℕ} → Adds t out at out₁ r₁ → Adds t out at out₂ r₂ → (r₁ ≡ r₂) × (out₁ ≡ out₂)
adds_one a b = (a.upto ∙ sym b.upto, a.puts ∙ sym b.puts)
