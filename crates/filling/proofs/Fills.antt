-- The steps of the loop that fills numbers in.
use Prim.Native.Nat.{ℕ, ◌+◌, ◌*◌, ◌^◌, ◌≤◌, ◌<◌}
use native.Mathlib.Omega.{arith}
use native.Mathlib.Numerals.{add-one}
use mathlib.Core.Path.{◌≡◌, refl, sym, ap, ◌∙◌}
use mathlib.Core.List.{List, [], ◌∷◌, ◌++◌, append_assoc, append-nil}
use borrow.Author.Tests.{eq-eqb, ne_eqb}
use lib.ListN.{length, get_or, take}
use lib.Seq.{take-suc, take_all}
use Rattle.text.specs.Text.{Adds}
use Rattle.text.proofs.Laws.{adds_none, adds_then, adds_as}
use Rattle.decimal.specs.Decimal.{longest_number, decimal_text}
use Rattle.decimal.proofs.Digits.{length_u64}
use Rattle.filling.specs.Filling.{hole, piece_of, left_by, filled_in, filled_room, AddsWithin}
use Rattle.filling.specs.InnerFill.{left_after, Piece}

-- one byte more
filled_end : (t : List ℕ) (c : ℕ) (ns : List ℕ) → filled_in (t ++ (c ∷ [])) ns ≡ filled_in t ns ++ piece_of c (left_after t ns)
unfolding filled_in left_after
filled_end [] c ns = append-nil (piece_of c ns)
filled_end (b ∷ t) c ns = rw (filled_end t c (left_by b ns)) (sym (append_assoc (piece_of b ns) (filled_in t (left_by b ns)) (piece_of c (left_after t (left_by b ns)))))

after_end : (t : List ℕ) (c : ℕ) (ns : List ℕ) → left_after (t ++ (c ∷ [])) ns ≡ left_by c (left_after t ns)
unfolding left_after
after_end [] c ns = refl
after_end (b ∷ t) c ns = after_end t c (left_by b ns)

-- WHAT THE LOOP KNOWS before the byte i, where the numbers `left` are not used yet
pub record FilledUpto (t ns out : List ℕ) (at i : ℕ) (left out₁ : List ℕ) (r : ℕ) : Type 0 where
  pub rest : left ≡ left_after (take i t) ns
  pub adds : Adds (filled_in (take i t) ns) out at out₁ r
  pub room : r + longest_number * length left ≤ at + i + longest_number * length ns

pub filling_none : (t ns out : List ℕ) (at : ℕ) → FilledUpto t ns out at 0 ns out at
unfolding filled_in left_after
filling_none t ns out at = record { rest = refl; adds = adds_none out at; room = omega arith }

pub filling_more : {t ns out out₁ out₂ left less : List ℕ} {at i r₁ r₂ : ℕ} → i < length t → FilledUpto t ns out at i left out₁ r₁
    → Piece (get_or t i 0) left out₁ r₁ out₂ r₂ → less ≡ left_by (get_or t i 0) left → FilledUpto t ns out at (i + 1) less out₂ r₂
filling_more {t} {ns} {out} {out₁} {out₂} {left} {less} {at} {i} {r₁} {r₂} h f p n =
    let c : ℕ = get_or t i 0 in
    let s : take (i + 1) t ≡ take i t ++ (c ∷ []) = rw (add-one i) (take-suc t i 0 h) in
    let same : filled_in (take i t) ns ++ piece_of c left ≡ filled_in (take (i + 1) t) ns = rw (s, f.rest) (sym (filled_end (take i t) c ns)) in
    record {
      rest = n ∙ rw (s, f.rest) (sym (after_end (take i t) c ns));
      adds = adds_as same (adds_then f.adds p.adds);
      room = omega (arith, f.room, p.room, ap length n);
    }

pub filling_done : {t ns out out₁ left : List ℕ} {at i r : ℕ} → i ≡ length t → FilledUpto t ns out at i left out₁ r
    → AddsWithin (filled_room t ns) (filled_in t ns) out at out₁ r
filling_done {t} {ns} {i = i} h f =
    record { adds = adds_as (ap (λ (u : List ℕ). filled_in u ns) (take_all i t (omega arith))) f.adds; within = omega (arith, f.room) }

-- A BYTE THAT IS NO HOLE, a hole with a number, and one with none
no_hole : (c : ℕ) (ns : List ℕ) → (c ≡ hole → ⊥) → (piece_of c ns ≡ c ∷ []) × (left_by c ns ≡ ns)
unfolding piece_of left_by
no_hole c [] h = (refl, refl)
no_hole c (n ∷ ns) h = (rw (ne_eqb c hole h), rw (ne_eqb c hole h))

no_numbers : (c : ℕ) → (piece_of c [] ≡ c ∷ []) × (left_by c [] ≡ [])
unfolding piece_of left_by
no_numbers c = (refl, refl)

a_hole : (c n : ℕ) (ns : List ℕ) → c ≡ hole → (piece_of c (n ∷ ns) ≡ decimal_text n) × (left_by c (n ∷ ns) ≡ ns)
unfolding piece_of left_by
a_hole c n ns h = (rw (eq-eqb c hole h), rw (eq-eqb c hole h))

no_elements : (l : List ℕ) → length l ≡ 0 → l ≡ []
no_elements [] e = refl
no_elements (a ∷ l) e = absurd (omega arith)

module _ (c : ℕ) (ns : List ℕ) {out out₁ : List ℕ} {at r : ℕ} where
  pub plain_piece : (c ≡ hole → ⊥) → Adds (c ∷ []) out at out₁ r → Piece c ns out at out₁ r × (ns ≡ left_by c ns)
  plain_piece h a = let p = no_hole c ns h in (record { adds = adds_as (sym p.0) a; room = rw p.1 (omega (arith, a.upto)) }, sym p.1)

  pub last_piece : length ns ≡ 0 → Adds (c ∷ []) out at out₁ r → Piece c ns out at out₁ r × (ns ≡ left_by c ns)
  last_piece e a =
      let p = no_numbers c in
      let none : ns ≡ [] = no_elements ns e in
      rw none (record { adds = adds_as (sym p.0) a; room = rw p.1 (omega (arith, a.upto)) }, sym p.1)

  pub number_piece : {n : ℕ} {rest : List ℕ} → c ≡ hole → ns ≡ n ∷ rest → n < 2 ^ 64 → Adds (decimal_text n) out at out₁ r → Piece c ns out at out₁ r × (rest ≡ left_by c ns)
  number_piece {n} {rest} h e f a =
      let p = a_hole c n rest h in
      rw e (record { adds = adds_as (sym p.0) a; room = rw p.1 (omega (arith, a.upto, length_u64 n f)) }, sym p.1)
