-- What a table says: of two joined, of one turned over, and of the tables of one digit, by one test that is computed.
use Prim.Native.Nat.{ℕ, zero, suc, ◌+◌, ◌-◌, ◌*◌, ◌^◌, ◌<◌}
use mathlib.Core.Path.{◌≡◌, refl, sym}
use mathlib.Core.Bool.{Bool, true, false, ◌&&◌, ◌||◌, not}
use mathlib.Core.List.{List, [], ◌∷◌}
use native.Mathlib.Omega.{arith}
use native.Mathlib.Decide.{dec_lt}
use lib.Bits.{bit_and, bit_or}
use lib.Dec.{eqb}
use lib.ListN.{get_or}
use borrow.Author.Tests.{lt-ltb, le-ltb}
use Rattle.query_text.proofs.Cases.{both_true}
use Rattle.query_text.specs.Grammar.{first, second}
use Rattle.query_text.specs.InnerClasses.{class_truth}
use Rattle.query_text.specs.InnerTable.{is_one}
use Rattle.query_text.specs.InnerTable.{says, Shows}
use Rattle.query_text.specs.declared.truth.Truth.{Truth}
use Rattle.query_text.proofs.Words.{and_is, or_is, not_is}

abbrev pub table : ℕ → ℕ → Truth
table low high = record { low = low; high = high }

pub and_shows : (t u : Truth) → Shows (table (bit_and t.low u.low) (bit_and t.high u.high)) (λ a b. says t a b && says u a b)
unfolding says
and_shows t u a b ha hb = elim (dec_lt (11 * a + b) 64) [
  | yes p ↦ rw (lt-ltb (11 * a + b) 64 p) (and_is t.low u.low (11 * a + b))
  | no p ↦ rw (le-ltb (11 * a + b) 64 (omega arith)) (and_is t.high u.high (11 * a + b - 64))
]

pub or_shows : (t u : Truth) → Shows (table (bit_or t.low u.low) (bit_or t.high u.high)) (λ a b. says t a b || says u a b)
unfolding says
or_shows t u a b ha hb = elim (dec_lt (11 * a + b) 64) [
  | yes p ↦ rw (lt-ltb (11 * a + b) 64 p) (or_is t.low u.low (11 * a + b))
  | no p ↦ rw (le-ltb (11 * a + b) 64 (omega arith)) (or_is t.high u.high (11 * a + b - 64))
]

-- a test of all numbers below n
abbrev all : ℕ → (ℕ → Bool) → Bool
all zero p = true
all (suc n) p = p n && all n p

all_at : (n : ℕ) (p : ℕ → Bool) → all n p ≡ true → (i : ℕ) → i < n → p i ≡ true
all_at zero p e i h = absurd (omega arith)
all_at (suc n) p e i h = let t = both_true (p n) (all n p) e in elim (dec_lt i n) [
  | yes q ↦ all_at n p t.1 i q
  | no q ↦ (let s : i ≡ n = omega arith in rw s t.0)
]

pub not_shows : (t : Truth) → t.low < 2 ^ 64 → t.high < 2 ^ 64 → Shows (table (2 ^ 64 - 1 - t.low) (2 ^ 64 - 1 - t.high)) (λ a b. not (says t a b))
unfolding says
not_shows t l h a b ha hb = elim (dec_lt (11 * a + b) 64) [
  | yes p ↦ rw (lt-ltb (11 * a + b) 64 p) (not_is t.low (11 * a + b) l p)
  | no p ↦ rw (le-ltb (11 * a + b) 64 (omega arith)) (not_is t.high (11 * a + b - 64) h (omega arith))
]

-- are two tests alike
abbrev alike : Bool → Bool → Bool
alike true b = b
alike false b = not b

alike_same : (a b : Bool) → alike a b ≡ true → a ≡ b
alike_same true b e = sym e
alike_same false true e = let z : ◌≡◌ {A = ℕ} 0 1 = cc in absurd (omega arith)
alike_same false false e = refl

-- a list of tables shows a test of digit and classes
unfoldable shown : List Truth → (ℕ → ℕ → ℕ → Bool) → Bool
shown tables f = all 10 (λ d. all 11 (λ a. all 11 (λ b. alike (says (get_or tables d (table 0 0)) a b) (f d a b))))

shown_at : (tables : List Truth) (f : ℕ → ℕ → ℕ → Bool) → shown tables f ≡ true → (d : ℕ) → d < 10 → Shows (get_or tables d (table 0 0)) (f d)
unfolding shown
shown_at tables f e d h a b ha hb =
    let t = get_or tables d (table 0 0) in
    let ofDigit = all_at 10 (λ d. all 11 (λ a. all 11 (λ b. alike (says (get_or tables d (table 0 0)) a b) (f d a b)))) e d h in
    let ofFirst = all_at 11 (λ a. all 11 (λ b. alike (says t a b) (f d a b))) ofDigit a (omega arith) in
    alike_same (says t a b) (f d a b) (all_at 11 (λ b. alike (says t a b) (f d a b)) ofFirst b (omega arith))

-- the constants of the code
abbrev firsts : List Truth
firsts =
    table 2047 0 ∷ table 4192256 0 ∷ table 8585740288 0 ∷ table 17583596109824 0 ∷ table 36011204832919552 0
    ∷ table 18410715276690587648 3 ∷ table 0 8188 ∷ table 0 16769024 ∷ table 0 34342961152 ∷ table 0 70334384439296 ∷ []

abbrev seconds : List Truth
seconds =
    table 36046397799139329 70403120701444 ∷ table 72092795598278658 140806241402888 ∷ table 144185591196557316 281612482805776
    ∷ table 288371182393114632 563224965611552 ∷ table 576742364786229264 1126449931223104 ∷ table 1153484729572458528 2252899862446208
    ∷ table 2306969459144917056 4505799724892416 ∷ table 4613938918289834112 9011599449784832 ∷ table 9227877836579668224 18023198899569664
    ∷ table 9011599449784832 36046397799139329 ∷ []

pub first_shows : (d : ℕ) → d < 10 → Shows (get_or firsts d (table 0 0)) (class_truth (first d))
unfolding shown says is_one class_truth
first_shows d h = shown_at firsts (λ d a b. eqb a d) refl d h

pub second_shows : (d : ℕ) → d < 10 → Shows (get_or seconds d (table 0 0)) (class_truth (second d))
unfolding shown says is_one class_truth
second_shows d h = shown_at seconds (λ d a b. eqb b d) refl d h
