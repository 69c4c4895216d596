-- Numbers put into lent bytes, digit by digit.
use Prim.Native.Nat.{ℕ, zero, suc, ◌+◌, ◌-◌, ◌/◌, ◌%◌, ◌<◌}
use native.Mathlib.Nat.{add-suc, lt_irrefl}
use native.Mathlib.Numerals.{sub-one}
use mathlib.Core.Path.{◌≡◌, sym, ap, ◌∙◌}
use mathlib.Core.List.{List, [], ◌∷◌, ◌++◌, append_assoc, append-nil}
use lib.ListN.{set, drop}
use lib.Seq.{sets, drop_at, drop-length}
use Rattle.splice.proofs.Sets.{sets_front}
use Rattle.decimal.specs.Decimal.{digit, digits_text}
use Rattle.decimal.proofs.Digits.{length_digits}

-- the last digits of ds are put, those from place i on, and `rest` has the first i
abbrev pub Left : List ℕ → ℕ → ℕ → Type 0
Left ds i rest = ds ≡ digits_text i rest ++ drop i ds

pub none_put : (k n : ℕ) → drop k (digits_text k n) ≡ []
none_put k n = ap (λ (i : ℕ). drop i (digits_text k n)) (sym (length_digits k n)) ∙ drop-length (digits_text k n)

pub all_left : (k n : ℕ) → Left (digits_text k n) k n
all_left k n = rw (none_put k n) (sym (append-nil (digits_text k n)))

-- one digit fewer is left
pub left_less : (ds : List ℕ) (i rest : ℕ) → Left ds (suc i) rest → Left ds i (rest / 10) × (drop i ds ≡ digit (rest % 10) ∷ drop (suc i) ds)
unfolding digits_text
left_less ds i rest e =
    let front : List ℕ = digits_text i (rest / 10) in
    let back : List ℕ = digit (rest % 10) ∷ drop (suc i) ds in
    let a : ds ≡ front ++ back = e ∙ append_assoc front (digit (rest % 10) ∷ []) (drop (suc i) ds) in
    let d : drop i ds ≡ back = ap (drop i) a ∙ drop_at front back i (length_digits i (rest / 10)) in
    (a ∙ ap (λ (t : List ℕ). front ++ t) (sym d), d)

-- and its store
pub digit_more : (ds l : List ℕ) (at i rest : ℕ) {out : List ℕ} → 0 < i → Left ds i rest → out ≡ sets l (at + i) (drop i ds)
    → Left ds (i - 1) (rest / 10) × (set out (at + (i - 1)) (digit (rest % 10)) ≡ sets l (at + (i - 1)) (drop (i - 1) ds))
digit_more ds l at zero rest h e o = absurd (lt_irrefl 0 h)
digit_more ds l at (suc i) rest h e o =
    let w = left_less ds i rest e in
    rw sub-one (w.0, rw (o, w.1, add-suc at i) (sets_front l (at + i) (drop (suc i) ds) (digit (rest % 10))))
