-- A list of ranges and the map that stores it: there and back, for both kinds. What is stored is sound.
use Prim.Native.Nat.{ℕ, zero, suc, ◌+◌, ◌-◌, ◌≤◌}
use native.Mathlib.Omega.{arith}
use mathlib.Core.Path.{◌≡◌, refl, sym, ap, ◌∙◌}
use mathlib.Core.List.{List, [], ◌∷◌, ◌++◌, map}
use lib.ListN.{length, get_or, take, drop, replicate, length-append, length-replicate, length-map}
use lib.Seq.{get_or-append-add, take-nil, drop-nil}
use lib.IntN.{ℤ, pos}
use mir.Facts.{sfits_lit}
use Rattle.span.specs.Span.{Span, Ordered, Upto, Tidy}
use Rattle.key.specs.Rank.{rank, key_at}
use Rattle.key.specs.Range.{Kind}
use Rattle.key.proofs.Laws.{key_at_rank, rank_key, key_fits}
use Rattle.key.proofs.Lawful.{Lawful}
use Rattle.outcomes.specs.Stored.{spans, ranges, filled, storing, AllFit, Sound, Spare}
use Rattle.outcomes.specs.declared.Stored.{Stored}
use Rattle.outcomes.proofs.Formed.{Formed, well_formed_lem}

-- parts of lists
module _ {A B : Type 0} (f : A → B) where
  pub map_take : (n : ℕ) (l : List A) → map f (take n l) ≡ take n (map f l)
  map_take zero l = refl
  map_take (suc n) [] = refl
  map_take (suc n) (x ∷ xs) = rw (map_take n xs)

  pub map_drop : (n : ℕ) (l : List A) → map f (drop n l) ≡ drop n (map f l)
  map_drop zero l = refl
  map_drop (suc n) [] = refl
  map_drop (suc n) (x ∷ xs) = map_drop n xs

-- what of the first n is left after the first j
pub drop_take : {A : Type 0} (j n : ℕ) (l : List A) → drop j (take n l) ≡ take (n - j) (drop j l)
drop_take zero n l = let e : n ≡ n - 0 = omega arith in ap (λ (k : ℕ). take k l) e
drop_take (suc j) zero l = let e : 0 ≡ 0 - suc j = omega arith in drop-nil (suc j) ∙ ap (λ (k : ℕ). take k (drop (suc j) l)) e
drop_take (suc j) (suc n) [] = sym (take-nil (suc n - suc j))
drop_take (suc j) (suc n) (x ∷ xs) = let e : n - j ≡ suc n - suc j = omega arith in drop_take j n xs ∙ ap (λ (k : ℕ). take k (drop j xs)) e

-- the starts, ends and values of the ranges of three lists
pub starts_back : (kind : Kind) (ss es : List ℤ) (vs : List ℕ) → length es ≡ length ss → length vs ≡ length ss → AllFit ss → map (λ (x : Span). key_at x.lo) (spans kind ss es vs) ≡ ss
unfolding spans
starts_back kind [] es vs p q f = refl
starts_back kind (s ∷ ss) [] vs p q f = absurd (omega arith)
starts_back kind (s ∷ ss) (e ∷ es) [] p q f = absurd (omega arith)
starts_back kind (s ∷ ss) (e ∷ es) (v ∷ vs) p q f = rw (key_at_rank (f 0), starts_back kind ss es vs (omega arith) (omega arith) (λ k. f (suc k)))

pub ends_back : (kind : Kind) → Lawful kind → (ss es : List ℤ) (vs : List ℕ) → length es ≡ length ss → length vs ≡ length ss → AllFit es → map (λ (x : Span). kind.ending x.hi) (spans kind ss es vs) ≡ es
unfolding spans
ends_back kind law [] [] vs p q f = refl
ends_back kind law [] (e ∷ es) vs p q f = absurd (omega arith)
ends_back kind law (s ∷ ss) [] vs p q f = absurd (omega arith)
ends_back kind law (s ∷ ss) (e ∷ es) [] p q f = absurd (omega arith)
ends_back kind law (s ∷ ss) (e ∷ es) (v ∷ vs) p q f = rw (law.back (f 0), ends_back kind law ss es vs (omega arith) (omega arith) (λ k. f (suc k)))

pub values_back : (kind : Kind) (ss es : List ℤ) (vs : List ℕ) → length es ≡ length ss → length vs ≡ length ss → map (λ (x : Span). x.label) (spans kind ss es vs) ≡ vs
unfolding spans
values_back kind [] es [] p q = refl
values_back kind [] es (v ∷ vs) p q = absurd (omega arith)
values_back kind (s ∷ ss) [] vs p q = absurd (omega arith)
values_back kind (s ∷ ss) (e ∷ es) [] p q = absurd (omega arith)
values_back kind (s ∷ ss) (e ∷ es) (v ∷ vs) p q = rw (values_back kind ss es vs (omega arith) (omega arith))

-- a list of one thing holds it at every place, and past its end for want of another
pub all_same : {A : Type 0} (z : A) (m j : ℕ) → get_or (replicate m z) j z ≡ z
all_same z zero j = refl
all_same z (suc m) zero = refl
all_same z (suc m) (suc j) = all_same z m j

-- a column that is filled up: its length, its first places, and the others
module _ {A : Type 0} (n : ℕ) (z : A) (l : List A) (room : length l ≤ n) where
  pub length_filled : length (filled n z l) ≡ n
  unfolding filled
  length_filled = rw (length-append, length-replicate (n - length l) z) (omega arith)

  pub spare_filled : Spare (filled n z l) (length l) z
  unfolding filled
  spare_filled k h =
      let e : length l + (k - length l) ≡ k = omega arith in
      ap (λ (j : ℕ). get_or (l ++ replicate (n - length l) z) j z) (sym e) ∙ get_or-append-add l (replicate (n - length l) z) (k - length l) z ∙ all_same z (n - length l) (k - length l)

-- the ranges that are stored are those that were to be stored
module _ (kind : Kind) (law : Lawful kind) where
  spans_of_lem : (b : ℕ) (xs : List Span) (rs re : List ℤ) (rv : List ℕ) → Ordered b xs → Upto law.limit xs
      → take (length xs) (spans kind (map (λ (x : Span). key_at x.lo) xs ++ rs) (map (λ (x : Span). kind.ending x.hi) xs ++ re) (map (λ (x : Span). x.label) xs ++ rv)) ≡ xs
  unfolding spans
  spans_of_lem b [] rs re rv o u = refl
  spans_of_lem b (x ∷ xs) rs re rv o u =
      let k = law.limit_keys in
      rw (rank_key x.lo (omega arith), law.written x.hi (omega arith) u.0, spans_of_lem x.hi xs rs re rv o.2 u.1)

  starts_fit : (b : ℕ) (xs : List Span) (m : ℕ) → Ordered b xs → Upto law.limit xs → AllFit (map (λ (x : Span). key_at x.lo) xs ++ replicate m (pos 0))
  starts_fit b [] zero o u k = sfits_lit tt
  starts_fit b [] (suc m) o u zero = sfits_lit tt
  starts_fit b [] (suc m) o u (suc k) = starts_fit b [] m o u k
  starts_fit b (x ∷ xs) m o u zero = let k = law.limit_keys in key_fits x.lo (omega arith)
  starts_fit b (x ∷ xs) m o u (suc k) = starts_fit x.hi xs m o.2 u.1 k

  ends_fit : (b : ℕ) (xs : List Span) (m : ℕ) → Ordered b xs → Upto law.limit xs → AllFit (map (λ (x : Span). kind.ending x.hi) xs ++ replicate m (pos 0))
  ends_fit b [] zero o u k = sfits_lit tt
  ends_fit b [] (suc m) o u zero = sfits_lit tt
  ends_fit b [] (suc m) o u (suc k) = ends_fit b [] m o u k
  ends_fit b (x ∷ xs) m o u zero = law.written_fits x.hi (omega arith) u.0
  ends_fit b (x ∷ xs) m o u (suc k) = ends_fit x.hi xs m o.2 u.1 k

  module _ (n : ℕ) (xs : List Span) (tidy : Tidy 0 xs) (upto : Upto law.limit xs) (room : length xs ≤ n) where
    pub ranges_storing : ranges kind (storing kind n xs) ≡ xs
    unfolding ranges storing filled
    ranges_storing = spans_of_lem 0 xs _ _ _ tidy.ordered upto

    formed_storing : Formed kind n (storing kind n xs)
    unfolding storing
    formed_storing =
        let ls : length (map (λ (x : Span). key_at x.lo) xs) ≡ length xs = length-map xs _ in
        let le : length (map (λ (x : Span). kind.ending x.hi) xs) ≡ length xs = length-map xs _ in
        let lv : length (map (λ (x : Span). x.label) xs) ≡ length xs = length-map xs _ in
        record {
          held = room;
          tidy = rw ranges_storing tidy;
          starts = λ k h. spare_filled n (pos 0) _ (omega arith) k (omega arith);
          ends = λ k h. spare_filled n (pos 0) _ (omega arith) k (omega arith);
          values = λ k h. spare_filled n 0 _ (omega arith) k (omega arith);
        }

    pub length_storing : length (storing kind n xs).starts ≡ n
    unfolding storing
    length_storing = length_filled n (pos 0) (map (λ (x : Span). key_at x.lo) xs) (omega (arith, length-map xs (λ (x : Span). key_at x.lo)))

    pub sound_storing : Sound kind (storing kind n xs)
    unfolding storing filled
    sound_storing = record {
      ends_as = length_filled n (pos 0) (map (λ (x : Span). kind.ending x.hi) xs) (omega (arith, length-map xs (λ (x : Span). kind.ending x.hi))) ∙ sym length_storing;
      values_as = length_filled n 0 (map (λ (x : Span). x.label) xs) (omega (arith, length-map xs (λ (x : Span). x.label))) ∙ sym length_storing;
      starts_fit = starts_fit 0 xs (n - length (map (λ (x : Span). key_at x.lo) xs)) tidy.ordered upto;
      ends_fit = ends_fit 0 xs (n - length (map (λ (x : Span). kind.ending x.hi) xs)) tidy.ordered upto;
      well = rw length_storing (well_formed_lem kind n (storing kind n xs) formed_storing);
    }

  -- all ranges of a map reach no further than ranges do
  pub upto_spans : (ss es : List ℤ) (vs : List ℕ) (c : ℕ) → Upto law.limit (take c (spans kind ss es vs))
  unfolding spans
  upto_spans ss es vs zero = tt
  upto_spans [] es vs (suc c) = tt
  upto_spans (s ∷ ss) [] vs (suc c) = tt
  upto_spans (s ∷ ss) (e ∷ es) [] (suc c) = tt
  upto_spans (s ∷ ss) (e ∷ es) (v ∷ vs) (suc c) = (law.ends_within e, upto_spans ss es vs c)

  pub upto_ranges : (m : Stored) → Upto law.limit (ranges kind m)
  unfolding ranges
  upto_ranges m = upto_spans m.starts m.ends m.values m.count
