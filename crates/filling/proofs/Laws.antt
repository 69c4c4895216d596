-- Laws of texts that are put one after another, with the room that they take.
use Prim.Native.Nat.{ℕ, ◌+◌, ◌≤◌}
use native.Mathlib.Omega.{arith}
use native.Mathlib.Numerals.{add-one}
use mathlib.Core.Path.{◌≡◌, sym, ap, ◌∙◌}
use mathlib.Core.List.{List, ◌++◌}
use lib.ListN.{length, take}
use Rattle.text.specs.Text.{Adds}
use Rattle.text.proofs.Laws.{adds_none, adds_then, adds_as, adds_length, adds_one, text_first}
use Rattle.filling.specs.Filling.{series, AddsWithin}

-- a text that was put takes its own length, and whatever is more
pub in_room : {room : ℕ} {t out out₁ : List ℕ} {at r : ℕ} → length t ≤ room → Adds t out at out₁ r → AddsWithin room t out at out₁ r
in_room h a = record { adds = a; within = omega (arith, a.upto) }

-- a text, and another behind it
pub then_within : {m n : ℕ} {s t out out₁ out₂ : List ℕ} {at r₁ r₂ : ℕ} → AddsWithin m s out at out₁ r₁ → AddsWithin n t out₁ r₁ out₂ r₂
    → AddsWithin (m + n) (s ++ t) out at out₂ r₂
then_within a b = record { adds = adds_then a.adds b.adds; within = omega arith }

-- the same text by another name, and in more room
pub as_within : {m n : ℕ} {s t out out₁ : List ℕ} {at r : ℕ} → s ≡ t → m ≤ n → AddsWithin m s out at out₁ r → AddsWithin n t out at out₁ r
as_within e h a = record { adds = adds_as e a.adds; within = omega arith }

-- as many bytes as before
pub within_length : {m : ℕ} {s out out₁ : List ℕ} {at r : ℕ} → AddsWithin m s out at out₁ r → length out₁ ≡ length out
within_length a = adds_length a.adds

-- a series of none, and one text more
pub series_none : (f : ℕ → List ℕ) (out : List ℕ) (at : ℕ) → AddsWithin 0 (series f 0) out at out at
unfolding series
series_none f out at = record { adds = adds_none out at; within = omega arith }

pub series_more : (f : ℕ → List ℕ) (i : ℕ) {m n : ℕ} {out out₁ out₂ : List ℕ} {at r₁ r₂ : ℕ} → AddsWithin m (series f i) out at out₁ r₁
    → AddsWithin n (f i) out₁ r₁ out₂ r₂
    → AddsWithin (m + n) (series f (i + 1)) out at out₂ r₂
unfolding series
series_more f i a b = as_within (sym (ap (series f) (add-one i))) (omega arith) (then_within a b)

-- THE ONE OUTCOME: the text decides the bytes and the place behind it
pub within_one : {m : ℕ} {s out o p : List ℕ} {at q r : ℕ} → AddsWithin m s out at o q → AddsWithin m s out at p r → (o ≡ p) × (q ≡ r)
within_one a b = (a.adds.puts ∙ sym b.adds.puts, a.adds.upto ∙ sym b.adds.upto)

-- what a caller writes of lent bytes with room for the text: the first r of them
pub within_first : {m : ℕ} {s out out₁ : List ℕ} {r : ℕ} → AddsWithin m s out 0 out₁ r → m ≤ length out → take r out₁ ≡ s
within_first a h = text_first a.adds (omega (arith, a.within, a.adds.upto))

-- ONE OUTCOME: the place behind the text, and the lent bytes
pub adds_within_one : {m : ℕ} {t out out₁ out₂ : List ℕ} {at r₁ r₂ : ℕ} → AddsWithin m t out at out₁ r₁ → AddsWithin m t out at out₂ r₂
    → (r₁ ≡ r₂) × (out₁ ≡ out₂)
adds_within_one a b = adds_one a.adds b.adds
