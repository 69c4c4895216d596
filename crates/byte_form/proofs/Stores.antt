-- Runs of stores, one after another, and into a part of a list.
use Prim.Native.Nat.{ℕ, suc, ◌+◌, ◌-◌, ◌≤◌}
use native.Mathlib.Omega.{arith}
use mathlib.Core.Path.{◌≡◌, sym, ap, ◌∙◌}
use mathlib.Core.List.{List, [], ◌∷◌, ◌++◌, append_assoc}
use borrow.Rule.Slice.PartMut.{mid_of, put_mid as put_back}
use lib.ListN.{length, set, length-append, take, drop, length-drop, take-append-drop}
use lib.Seq.{sets, sets-eq, length-sets, length-take-le, drop-append-le, drop-drop}

module _ {A : Type 0} where
  -- a run into the first k places
  pub put_front : (k : ℕ) (l ws : List A) → length ws ≡ k → k ≤ length l → ws ++ drop k l ≡ sets l 0 ws
  put_front k l ws e h = let z : 0 + length ws ≡ k = omega arith in sym (rw z at (sets-eq ws l 0 (omega arith)))

  -- a second run, right after the first
  pub sets_append : (l : List A) (i : ℕ) (vs ws : List A) (j : ℕ) → i + length vs ≡ j → sets (sets l i vs) j ws ≡ sets l i (vs ++ ws)
  sets_append l i [] ws j e = let k : j ≡ i = omega arith in ap (λ (k : ℕ). sets l k ws) k
  sets_append l i (v ∷ vs) ws j e = sets_append (set l i v) (suc i) vs ws j (omega arith)

  -- a run into the k places from a on, lent as a part
  pub put_mid : (a k : ℕ) (l ws : List A) {ys : List A} → ys ≡ sets (mid_of a k l) 0 ws → length ws ≤ k → a + k ≤ length l → put_back a k l ys ≡ sets l a ws
  put_mid a k l ws e h b =
      let t : List A = take k (drop a l) in
      let m : length t ≡ k = length-take-le k (drop a l) (omega (arith, length-drop a l)) in
      let z : 0 + length ws ≡ length ws = omega arith in
      let s : sets t 0 ws ≡ ws ++ drop (length ws) t = rw z at (sets-eq ws t 0 (omega arith)) in
      let q : drop (length ws) t ++ drop k (drop a l) ≡ drop (a + length ws) l =
      sym (drop-append-le (length ws) t (drop k (drop a l)) (omega arith)) ∙ ap (drop (length ws)) (take-append-drop k (drop a l)) ∙ drop-drop (length ws) a l in
      rw (e, s, append_assoc ws, q, sets-eq ws l a (omega arith)) (sym (append_assoc (take a l) ws (drop (a + length ws) l)))

  -- a run of a places from the front, and one into the part after it
  pub two_runs : (l vs ws : List A) (a : ℕ) {m ys : List A} → m ≡ sets l 0 vs → ys ≡ sets (mid_of a (length m - a) m) 0 ws → length vs ≡ a → a + length ws ≤ length l
      → put_back a (length m - a) m ys ≡ sets l 0 (vs ++ ws)
  two_runs l vs ws a {m} e f n h =
      let s : length m ≡ length l = ap length e ∙ length-sets l 0 vs in
      put_mid a (length m - a) m ws f (omega arith) (omega arith) ∙ ap (λ (x : List A). sets x a ws) e ∙ sets_append l 0 vs ws a (omega arith)

  -- and one more store after both
  pub three_runs : (l vs ws : List A) (v : A) (a j : ℕ) {m ys : List A} → m ≡ sets l 0 vs → ys ≡ sets (mid_of a (length m - a) m) 0 ws → length vs ≡ a → a + length ws ≡ j → j ≤ length l
      → set (put_back a (length m - a) m ys) j v ≡ sets l 0 (vs ++ (ws ++ (v ∷ [])))
  three_runs l vs ws v a j e f n s h =
      ap (λ (x : List A). set x j v) (two_runs l vs ws a e f n (omega arith)) ∙ sets_append l 0 (vs ++ ws) (v ∷ []) j (omega (arith, length-append vs ws))
      ∙ ap (λ (x : List A). sets l 0 x) (append_assoc vs ws (v ∷ []))
