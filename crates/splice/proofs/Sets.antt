-- Laws of a run of stores, `sets`, over any type of elements: a load beside it, and one more store at its end or before it.
use Prim.Native.Nat.{ℕ, suc, ◌+◌, ◌-◌, ◌≤◌, ◌<◌, min}
use mathlib.Core.Path.{◌≡◌, refl, sym, ap, ◌∙◌}
use mathlib.Core.List.{List, [], ◌∷◌, ◌++◌, append_assoc, append-nil}
use native.Mathlib.Omega.{arith}
use native.Mathlib.Nat.{add-zero}
use lib.ListN.{length, get_or, set, take, drop, replicate, length-replicate, length-drop, length-append}
use lib.ListN.{replicate-append-replicate, drop_of_length-le}
use lib.Seq.{sets, paste, get_or-set_other, set_comm, length-take-le, sets-eq}
use lib.Seq.{take-append-le, take-take, take_at, drop_at, drop-append-add, drop-drop}
use Rattle.std.proofs.lemmas.List.{drop-replicate, take-append-drop}
use Rattle.std.proofs.lemmas.List.Edits.{paste_more}
use Rattle.splice.specs.InnerSplice.{filled_with, Filler, spliced}

module _ {A : Type 0} where
  -- a load before it, and one behind it
  pub get_before : (l : List A) (i : ℕ) (vs : List A) (q : ℕ) (d : A) → q < i → get_or (sets l i vs) q d ≡ get_or l q d
  get_before l i [] q d h = refl
  get_before l i (v ∷ vs) q d h = get_before (set l i v) (suc i) vs q d (omega arith) ∙ get_or-set_other l i q v d (omega arith)

  pub get_after : (l : List A) (i : ℕ) (vs : List A) (q : ℕ) (d : A) → i + length vs ≤ q → get_or (sets l i vs) q d ≡ get_or l q d
  get_after l i [] q d h = refl
  get_after l i (v ∷ vs) q d h = get_after (set l i v) (suc i) vs q d (omega arith) ∙ get_or-set_other l i q v d (omega arith)

  -- one more at the end
  pub sets_end : (l : List A) (i : ℕ) (vs : List A) (v : A) → set (sets l i vs) (i + length vs) v ≡ sets l i (vs ++ (v ∷ []))
  sets_end l i [] v = ap (λ (k : ℕ). set l k v) (add-zero i)
  sets_end l i (w ∷ vs) v = ap (λ (k : ℕ). set (sets (set l i w) (suc i) vs) k v) (omega arith) ∙ sets_end (set l i w) (suc i) vs v

  -- one more in front
  sets_past : (l : List A) (i j : ℕ) (vs : List A) (v : A) → i < j → set (sets l j vs) i v ≡ sets (set l i v) j vs
  sets_past l i j [] v h = refl
  sets_past l i j (w ∷ vs) v h =
      sets_past (set l j w) i (suc j) vs v (omega arith) ∙ ap (λ (t : List A). sets t (suc j) vs) (set_comm l j i w v (omega arith))

  pub sets_front : (l : List A) (i : ℕ) (vs : List A) (v : A) → set (sets l (suc i) vs) i v ≡ sets l i (v ∷ vs)
  sets_front l i vs v = sets_past l i (suc i) vs v (omega arith)

  -- one more place written, of n at most
  pub put_more : {a : List A} (l : List A) (at : ℕ) (new : List A) (k n : ℕ) (d : A) → k < n → at + n ≤ length l → k < length new
      → a ≡ paste l at new (min k n) → set a (at + k) (get_or new k d) ≡ paste l at new (min (k + 1) n)
  put_more l at new k n d h room few e =
      let now : min k n ≡ k = omega arith in
      let next : min (k + 1) n ≡ k + 1 = omega arith in
      rw (e, now, next) (paste_more l at new k d (omega arith) few)

  -- what is moved to where it stands
  pub stays : (l : List A) (i n : ℕ) → l ≡ paste l i (drop i l) n
  stays l i n =
      let rest : take n (drop i l) ++ drop (i + n) l ≡ drop i l =
      ap (λ (t : List A). take n (drop i l) ++ t) (sym (drop-drop n i l)) ∙ take-append-drop n (drop i l) in
      sym (append_assoc (take i l) (take n (drop i l)) (drop (i + n) l) ∙ ap (λ (t : List A). take i l ++ t) rest ∙ take-append-drop i l)

  -- one more place cleared
  pub clear_more : {a : List A} (l : List A) (from p : ℕ) (z : A) → a ≡ sets l from (replicate (p - from) z) → from ≤ p
      → set a p z ≡ sets l from (replicate (p + 1 - from) z)
  clear_more l from p z e h =
      let n : from + length (replicate (p - from) z) ≡ p = omega (arith, length-replicate (p - from) z) in
      let m : p + 1 - from ≡ p - from + 1 = omega arith in
      rw (e, m) (rw (n, replicate-append-replicate (p - from) 1 z) at (sets_end l from (replicate (p - from) z) z))

module _ {A : Type 0} (a : List A) (i j count : ℕ) (vs : List A) (z : A) (ij : i ≤ j) (jc : j ≤ count) (cl : count ≤ length a)
    (fit : i + length vs + (count - j) ≤ length a) (sp : Filler a count z) where
  abbrev tail : List A
  tail = take (count - j) (drop j a)

  abbrev end : ℕ
  end = i + length vs + (count - j)

  len_tail : length tail ≡ count - j
  len_tail = length-take-le (count - j) (drop j a) (omega (arith, length-drop j a))

  len_head : length (take (i + length vs) a) ≡ i + length vs
  len_head = length-take-le (i + length vs) a (omega arith)

  -- the column after the move
  abbrev moved : List A
  moved = paste a (i + length vs) (drop j a) (count - j)

  after_put : take i moved ++ vs ++ drop (i + length vs) moved ≡ take i a ++ vs ++ tail ++ drop end a
  after_put =
      let h : List A = take (i + length vs) a in
      let b : i ≤ length (h ++ tail) = omega (arith, length-append h tail, len_head) in
      let t : take i (h ++ tail ++ drop end a) ≡ take i a =
      take-append-le i (h ++ tail) (drop end a) b ∙ take-append-le i h tail (omega (arith, len_head)) ∙ take-take i (i + length vs) a (omega arith) in
      let d : drop (i + length vs) (h ++ tail ++ drop end a) ≡ tail ++ drop end a =
      ap (drop (i + length vs)) (append_assoc h tail (drop end a)) ∙ drop_at h (tail ++ drop end a) (i + length vs) len_head in
      rw (t, d) (sym (append_assoc (take i a ++ vs) tail (drop end a)))

  after_clear : sets (take i a ++ vs ++ tail ++ drop end a) end (replicate (count - end) z) ≡ take i a ++ vs ++ tail ++ replicate (length a - end) z
  after_clear =
      let p : List A = take i a ++ vs ++ tail in
      let n : length p ≡ end = simp (length-append, length-take-le i a (omega arith), len_tail) in
      let c : length (replicate (count - end) z) ≡ count - end = length-replicate (count - end) z in
      let w : end + length (replicate (count - end) z) ≤ length (p ++ drop end a) = omega (arith, length-append p (drop end a), length-drop end a) in
      let e : end + (count - end) ≡ count + (end - count) = omega arith in
      let d : drop (end + length (replicate (count - end) z)) (p ++ drop end a) ≡ replicate (length a - count - (end - count)) z =
      ap (λ (k : ℕ). drop (end + k) (p ++ drop end a)) c ∙ ap (λ (k : ℕ). drop (k + (count - end)) (p ++ drop end a)) (sym n)
      ∙ drop-append-add p (drop end a) (count - end) ∙ drop-drop (count - end) end a
      ∙ rw (e, ← drop-drop (end - count) count a, sp) (drop-replicate (end - count) (length a - count) z) in
      let s : count - end + (length a - count - (end - count)) ≡ length a - end = omega arith in
      rw (sets-eq (replicate (count - end) z) (p ++ drop end a) end w, take_at p (drop end a) end n, d, append_assoc p, replicate-append-replicate, s)

  -- the three calls of `splice_column`, by what each ensures
  pub splice_done : {c : List A} (m p : List A) (n : ℕ) → length vs ≡ n → m ≡ paste a (i + n) (drop j a) (count - j)
      → p ≡ take i m ++ vs ++ drop (i + n) m → c ≡ filled_with p (i + n + (count - j)) count z → c ≡ spliced a i j count vs z
  unfolding spliced
  splice_done m p n en em ep ec = rw (ec, ep, em, ← en, after_put) after_clear

-- a list that is cleared whole holds nothing
pub all_clear : {A : Type 0} (l : List A) (z : A) {n : ℕ} → length l ≡ n → filled_with l 0 n z ≡ replicate n z
all_clear l z {n} e =
    let r : length (replicate (n - 0) z) ≡ n = length-replicate (n - 0) z ∙ sub_zero n in
    let d : drop (0 + length (replicate (n - 0) z)) l ≡ [] = ap (λ (k : ℕ). drop (0 + k) l) r ∙ drop_of_length-le l {i = 0 + n} (omega arith) in
    sets-eq (replicate (n - 0) z) l 0 (omega arith) ∙ rw (d, append-nil) (ap (λ (k : ℕ). replicate k z) (sub_zero n))
  where
    sub_zero : (n : ℕ) → n - 0 ≡ n
    sub_zero n = omega arith
