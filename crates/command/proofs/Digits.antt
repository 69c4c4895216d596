-- The digits of a text, and the words of a command line.
use Prim.Native.Nat.{ℕ, ◌≤◌, min}
use native.Mathlib.Omega.{arith}
use mathlib.Core.Path.{◌≡◌, refl, sym, ap, ◌∙◌}
use mathlib.Core.Bool.{Bool, true, false, not, ◌&&◌}
use mathlib.Core.List.{List, [], ◌∷◌}
use lib.Dec.{leb, eqb}
use lib.ListN.{take, drop}
use Rattle.std.specs.Bool.{then_some}
use Rattle.std.specs.Char.{is_ascii_digit}
use Rattle.std.specs.List.{list_all}
use Rattle.std.specs.Cmp.Lexicographic.{pointwise}
use Rattle.decimal.proofs.Steps.{first_byte}
use Rattle.byte_form.specs.Form.{same_bytes}
use Rattle.decimal.specs.Reading.{no_leading_zero, read_number}
use Rattle.command.specs.Words.{digits, natural, decimal, at_most, number_of}
use Rattle.std.specs.Prelude.{Option, Some, None}

pub and_no : (t : Bool) → (t && false) ≡ false
and_no true = refl
and_no false = refl

pub and_true : (t : Bool) → (t && true) ≡ t
and_true true = refl
and_true false = refl

-- all bytes are digits
pub all_digits : (t : List ℕ) → list_all is_ascii_digit t ≡ digits t
unfolding digits
all_digits [] = refl
all_digits (b ∷ t) = ap (λ (r : Bool). (leb 48 b && leb b 57) && r) (all_digits t)

-- what a comparison of two texts answers
same_by : (a b : List ℕ) → pointwise eqb a b ≡ same_bytes a b
unfolding same_bytes
same_by [] [] = refl
same_by [] (c ∷ cs) = refl
same_by (b ∷ bs) [] = refl
same_by (b ∷ bs) (c ∷ cs) = ap (λ (r : Bool). eqb b c && r) (same_by bs cs)

pub told_equal : {r : Bool} (a : List ℕ) {b c : List ℕ} → b ≡ c → r ≡ pointwise eqb a b → same_bytes a c ≡ r
told_equal a {b} l e = sym (e ∙ same_by a b ∙ ap (same_bytes a) l)

pub told_other : {r : Bool} (a : List ℕ) {b c : List ℕ} → b ≡ c → r ≡ not (pointwise eqb a b) → not (same_bytes a c) ≡ r
told_other a {b} l e = sym (e ∙ ap not (same_by a b ∙ ap (same_bytes a) l))

-- a decimal number by its first byte: one with a minus, and one with none
pub a_minus : (t : List ℕ) {d : List ℕ} → pointwise eqb (take 1 t) (45 ∷ []) ≡ true → d ≡ drop 1 t → decimal t ≡ (natural d && not (same_bytes d (48 ∷ [])))
unfolding decimal
a_minus [] h e = absurd (let z : ◌≡◌ {A = ℕ} 0 1 = cc in omega arith)
a_minus (b ∷ t) h e = rw (e, sym (first_byte b 45 t) ∙ h)

pub no_minus : (t : List ℕ) → pointwise eqb (take 1 t) (45 ∷ []) ≡ false → decimal t ≡ natural t
unfolding decimal no_leading_zero
no_minus [] h = refl
no_minus (b ∷ t) h = rw (sym (first_byte b 45 t) ∙ h)

-- a text that is no number below 2 ^ 64
pub any_other : (most : ℕ) (any : Bool) → at_most most any None ≡ then_some any most
any_other most true = refl
any_other most false = refl

-- a number of a zone or a date is at most the one that stands for all others
pub number_within : (most : ℕ) (w : List ℕ) {n : ℕ} → number_of most w ≡ Some n → n ≤ most
unfolding number_of
number_within most w {n} = go (decimal w) (read_number w)
  where
    go : (any : Bool) (x : Option ℕ) → at_most most any x ≡ Some n → n ≤ most
    go any (Some k) e = let z : n ≡ min k most = cc in omega arith
    go true None e = let z : n ≡ most = cc in omega arith
    go false None e = absurd (let z : ◌≡◌ {A = ℕ} 0 1 = cc in omega arith)
