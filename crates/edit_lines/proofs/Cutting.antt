-- The parts of a text, one after the other, as a search for the byte that parts them finds them.
use Prim.Native.Nat.{ℕ, suc, ◌+◌, ◌-◌, ◌≤◌, ◌<◌}
use native.Mathlib.Omega.{arith}
use native.Mathlib.Numerals.{add-one}
use native.Mathlib.Decide.{dec_lt}
use mathlib.Core.Path.{◌≡◌, refl, sym, ◌∙◌}
use mathlib.Core.Bool.{Bool, true, false, cond, not}
use mathlib.Core.List.{List, [], ◌∷◌}
use lib.Dec.{eqb}
use lib.Pointwise.{pointwise}
use Rattle.byte_form.specs.Form.{same_bytes}
use Rattle.byte_form.proofs.Forms.{told_same}
use Rattle.std.proofs.lemmas.Slice.Eq.{bytes_eq-Decides}
use lib.ListN.{length, take, drop, length-drop, drop_of_length-le}
use lib.Seq.{take-length, take_all}
use Rattle.std.specs.List.{position, position_or_len}
use Rattle.std.specs.Prelude.{Some, None, Result, Ok, Err}
use Rattle.std.specs.Result.{OkIff, result_ok}
use Rattle.std.proofs.lemmas.List.Quantifiers.{position-Some}
use Rattle.std.proofs.lemmas.List.Sums.{position_or_len_is}
use Rattle.std.proofs.lemmas.List.Recursion.{is_position_or_len}
use borrow.Author.Tests.{lt-ltb}
use Rattle.edit_lines.specs.Making.{words_line}
use Rattle.edit_lines.specs.InnerStep.{index_of}
use Rattle.edit_lines.specs.Parts.{ahead, parts_at, lines_of, words_of}

-- where a byte is, by whether it is the first, and where it is behind that
abbrev index_after : Bool → ℕ → ℕ
index_after t n = cond t 0 (suc n)

-- a byte in front of a text of which the first part is known
module _ (b : ℕ) (e : List (List ℕ)) (x : ℕ) (xs : List ℕ) where
  one_more : (t : Bool) → (t ≡ false → parts_at b e xs ≡ take (index_of b xs) xs ∷ parts_at b e (drop (suc (index_of b xs)) xs))
      → cond t ([] ∷ parts_at b e xs) (ahead x (parts_at b e xs))
      ≡ take (index_after t (index_of b xs)) (x ∷ xs) ∷ parts_at b e (drop (suc (index_after t (index_of b xs))) (x ∷ xs))
  unfolding ahead
  one_more true rest = refl
  one_more false rest = rw (rest refl)

-- where the byte stands in the text, the part before it is the first
pub parts_more : (b : ℕ) (e : List (List ℕ)) (xs : List ℕ) → index_of b xs < length xs
    → parts_at b e xs ≡ take (index_of b xs) xs ∷ parts_at b e (drop (suc (index_of b xs)) xs)
unfolding parts_at index_of
parts_more b e [] h = absurd (omega arith)
parts_more b e (x ∷ xs) h = let ih = parts_more b e xs in one_more b e x xs (eqb x b) (λ t. ih (behind (eqb x b) t h))
  where
    behind : (t : Bool) → t ≡ false → index_after t (index_of b xs) < suc (length xs) → index_of b xs < length xs
    behind true e h = absurd (let z : ◌≡◌ {A = ℕ} 0 1 = cc in omega arith)
    behind false e h = omega arith

-- a text that has a byte has a first line, be it the last or not
pub lines_more : (xs : List ℕ) → 0 < length xs → lines_of xs ≡ take (index_of 10 xs) xs ∷ lines_of (drop (suc (index_of 10 xs)) xs)
unfolding parts_at index_of ahead
lines_more [] h = absurd (omega arith)
lines_more (x ∷ []) h = go (eqb x 10)
  where
    go : (t : Bool) → cond t ([] ∷ []) ((x ∷ []) ∷ []) ≡ take (index_after t 0) (x ∷ []) ∷ lines_of (drop (suc (index_after t 0)) (x ∷ []))
    go true = refl
    go false = refl
lines_more (x ∷ y ∷ ys) h = let ih = lines_more (y ∷ ys) (omega arith) in one_more 10 [] x (y ∷ ys) (eqb x 10) (λ t. ih)

-- a line in which no space stands is one word
pub words_last : (xs : List ℕ) → index_of 32 xs ≡ length xs → words_of xs ≡ xs ∷ []
unfolding parts_at index_of ahead
words_last [] h = refl
words_last (x ∷ xs) h = let ih = words_last xs in go (eqb x 32) ih h
  where
    go : (t : Bool) → (index_of 32 xs ≡ length xs → words_of xs ≡ xs ∷ []) → index_after t (index_of 32 xs) ≡ suc (length xs)
        → cond t ([] ∷ words_of xs) (ahead x (words_of xs)) ≡ (x ∷ xs) ∷ []
    go true ih h = absurd (omega arith)
    go false ih h = rw (ih (omega arith))

-- where a byte is, by what the search of a text found
index_position : (b : ℕ) (xs : List ℕ) → index_of b xs ≡ position_or_len (λ x. eqb x b) xs
unfolding index_of
index_position b xs = is_position_or_len (index_of b) (λ x. eqb x b) refl (λ x xs. one (eqb x b) (index_of b xs)) xs
  where
    one : (t : Bool) (n : ℕ) → cond t 0 (suc n) ≡ cond t 0 (1 + n)
    one true n = refl
    one false n = omega arith

index_within : (b : ℕ) (xs : List ℕ) → index_of b xs ≤ length xs
unfolding index_of
index_within b [] = omega arith
index_within b (x ∷ xs) = go (eqb x b) (index_within b xs)
  where
    go : (t : Bool) → index_of b xs ≤ length xs → index_after t (index_of b xs) ≤ suc (length xs)
    go true h = omega arith
    go false h = omega arith

pub place_some : (b : ℕ) (xs : List ℕ) (i : ℕ) → position (λ x. eqb x b) xs ≡ Some i → (i ≡ index_of b xs) × (i < length xs)
place_some b xs i e =
    let (within, here, before) = position-Some (λ x. eqb x b) xs i 0 e in
    (sym (index_position b xs ∙ position_or_len_is (λ x. eqb x b) xs i 0 (omega arith) before (λ _. here)), within)

pub place_none : (b : ℕ) (xs : List ℕ) → position (λ x. eqb x b) xs ≡ None → index_of b xs ≡ length xs
place_none b xs e = elim (dec_lt (index_of b xs) (length xs)) [
  | yes h ↦ absurd (let z : Some (position_or_len (λ x. eqb x b) xs) ≡ None = rw (lt-ltb _ _ (rw (index_position b xs) at h)) at e in let y : ◌≡◌ {A = ℕ} 0 1 = cc in omega arith)
  | no h ↦ omega (arith, index_within b xs)
]

-- a line has a word
words_some : (xs : List ℕ) → (p : List ℕ) × ((ps : List (List ℕ)) × (words_of xs ≡ p ∷ ps))
unfolding parts_at ahead
words_some [] = ([], ([], refl))
words_some (x ∷ xs) = let (p, (ps, e)) = words_some xs in go (eqb x 32) p ps e
  where
    go : (t : Bool) (p : List ℕ) (ps : List (List ℕ)) → words_of xs ≡ p ∷ ps
        → (q : List ℕ) × ((qs : List (List ℕ)) × (cond t ([] ∷ words_of xs) (ahead x (words_of xs)) ≡ q ∷ qs))
    go true p ps e = ([], (words_of xs, refl))
    go false p ps e = (x ∷ p, (ps, rw e))

-- a text compared with a word
module _ (a b : List ℕ) {r : Bool} (compared : r ≡ not (pointwise eqb a b)) where
  pub is_word : r ≡ false → same_bytes a b ≡ true
  is_word e = told_same (pointwise eqb a b) a b (bytes_eq-Decides a b) ∙ turn (pointwise eqb a b) (sym compared ∙ e)
    where
      turn : (t : Bool) → not t ≡ false → t ≡ true
      turn true h = refl
      turn false h = sym h

  pub no_word : r ≡ true → same_bytes a b ≡ false
  no_word e = told_same (pointwise eqb a b) a b (bytes_eq-Decides a b) ∙ turn (pointwise eqb a b) (sym compared ∙ e)
    where
      turn : (t : Bool) → not t ≡ true → t ≡ false
      turn true h = sym h
      turn false h = refl

-- a value that is a byte
pub a_byte : {E : Type 0} {n v : ℕ} (r : Result ℕ E) → OkIff r (n < 256) n → Some v ≡ result_ok r → (n < 256) × (v ≡ n)
a_byte {v = v} (Ok x) s e = let z : v ≡ x = cc in (s.0, z ∙ s.1)
a_byte {v = v} (Err x) s e = absurd (let z : Some v ≡ None = e in let y : ◌≡◌ {A = ℕ} 0 1 = cc in omega arith)

-- the words of a text in which a space was looked for
module _ (xs : List ℕ) where
  pub no_space : position (λ x. eqb x 32) xs ≡ None → words_of xs ≡ xs ∷ []
  no_space e = words_last xs (place_none 32 xs e)

  -- what is behind the space goes to the end of the text, as a part of a slice says it
  pub a_space : {i : ℕ} → position (λ x. eqb x 32) xs ≡ Some i → words_of xs ≡ take i xs ∷ words_of (take (length xs - (i + 1)) (drop (i + 1) xs))
  a_space {i} e =
      let (is, within) = place_some 32 xs i e in
      let whole : length (drop (i + 1) xs) ≤ length xs - (i + 1) = simp length-drop (omega arith) in
      parts_more 32 ([] ∷ []) xs (omega arith) ∙ rw (take_all (length xs - (i + 1)) (drop (i + 1) xs) whole, is, add-one)

-- no line is in a text of no bytes
pub no_text : (xs : List ℕ) → length xs ≡ 0 → lines_of xs ≡ []
unfolding parts_at
no_text [] e = refl
no_text (x ∷ xs) e = absurd (omega arith)

-- the first line of a text, in which a newline was looked for
module _ (xs : List ℕ) where
  pub a_line : {i : ℕ} → position (λ x. eqb x 10) xs ≡ Some i → lines_of xs ≡ take i xs ∷ lines_of (take (length xs - (i + 1)) (drop (i + 1) xs))
  a_line {i} e =
      let (is, within) = place_some 10 xs i e in
      let whole : length (drop (i + 1) xs) ≤ length xs - (i + 1) = simp length-drop (omega arith) in
      lines_more xs (omega arith) ∙ rw (take_all (length xs - (i + 1)) (drop (i + 1) xs) whole, is, add-one)

  pub only_line : 0 < length xs → position (λ x. eqb x 10) xs ≡ None → lines_of xs ≡ xs ∷ lines_of []
  only_line h e =
      let n = place_none 10 xs e in
      lines_more xs h ∙ rw (n, take-length xs, drop_of_length-le xs {i = suc (length xs)} (omega arith))

-- a line of five words or more is no edit
pub five_words : (w s e v xs : List ℕ) → words_line (w ∷ s ∷ e ∷ v ∷ words_of xs) ≡ None
five_words w s e v xs = let (p, (ps, is)) = words_some xs in rw is
