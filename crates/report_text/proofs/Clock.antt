-- THE CLOCK tells its seconds: no two numbers of seconds have the same text.
use Prim.Native.Nat.{ℕ, ◌+◌, ◌*◌, ◌/◌, ◌%◌, ◌^◌, ◌<◌}
use native.Mathlib.Omega.{arith}
use mathlib.Core.Path.{◌≡◌, sym, ap, ◌∙◌}
use mathlib.Core.List.{List, ◌++◌}
use lib.ListN.{length, take, drop, length-append}
use lib.Seq.{take_at, drop_at}
use Rattle.decimal.proofs.Digits.{one_digits}
use Rattle.decimal.proofs.Reading.{one_text}
use Rattle.report_text.specs.Times.{pair_text, clock_text}
use Rattle.report_text.proofs.Columns.{length_pair}

-- texts with ends of one length
apart : (a b p q : List ℕ) → length p ≡ length q → a ++ p ≡ b ++ q → (a ≡ b) × (p ≡ q)
apart a b p q l e =
    let n : length a ≡ length b = omega (arith, length-append a p, length-append b q, ap length e) in (
      sym (take_at a p (length b) n) ∙ ap (take (length b)) e ∙ take_at b q (length b) (omega arith),
      sym (drop_at a p (length b) n) ∙ ap (drop (length b)) e ∙ drop_at b q (length b) (omega arith),
    )

one_pair : (m n : ℕ) → m < 100 → n < 100 → pair_text m ≡ pair_text n → m ≡ n
unfolding pair_text
one_pair m n f g e = one_digits 2 m n f g (ap (drop 1) e)

-- hours, minutes and seconds add up
parts : (n : ℕ) → n ≡ 3600 * (n / 3600) + 60 * (n / 60 % 60) + n % 60
parts n =
    let hours : n / 60 / 60 ≡ n / 3600 = omega arith in
    let minutes : n / 60 ≡ 60 * (n / 60 / 60) + n / 60 % 60 = omega arith in
    let seconds : n ≡ 60 * (n / 60) + n % 60 = omega arith in
    add (n % 60) (n / 60 % 60) seconds minutes hours
  where
    add : {m h k : ℕ} (a b : ℕ) → n ≡ 60 * m + a → m ≡ 60 * h + b → h ≡ k → n ≡ 3600 * k + 60 * b + a
    add a b p q r = omega arith

alike : {a b c d e f m n : ℕ} → m ≡ 3600 * a + 60 * b + c → n ≡ 3600 * d + 60 * e + f → a ≡ d → b ≡ e → c ≡ f → m ≡ n
alike p q r s t = omega arith

pub clock_one : (m n : ℕ) → m < 2 ^ 64 → n < 2 ^ 64 → clock_text m ≡ clock_text n → m ≡ n
unfolding clock_text
clock_one m n f g e =
    let same : length (pair_text (m % 60)) ≡ length (pair_text (n % 60)) = length_pair (m % 60) ∙ sym (length_pair (n % 60)) in
    let like : length (pair_text (m / 60 % 60)) ≡ length (pair_text (n / 60 % 60)) = length_pair (m / 60 % 60) ∙ sym (length_pair (n / 60 % 60)) in
    let s = apart _ _ _ _ same e in
    let t = apart _ _ _ _ like s.0 in
    let h : m / 3600 ≡ n / 3600 = one_text (m / 3600) (n / 3600) (omega arith) (omega arith) t.0 in
    let i : m / 60 % 60 ≡ n / 60 % 60 = one_pair (m / 60 % 60) (n / 60 % 60) (omega arith) (omega arith) t.1 in
    let j : m % 60 ≡ n % 60 = one_pair (m % 60) (n % 60) (omega arith) (omega arith) s.1 in
    alike (parts m) (parts n) h i j
