-- Intersection and union of two sets by one walk over both, span by span: what one step of it leaves to be found.
use Prim.Native.Nat.{ℕ, zero, suc, ◌+◌, ◌-◌, ◌≤◌, ◌<◌, min, max}
use native.Mathlib.Omega.{arith}
use native.Mathlib.Decide.{dec_lt}
use mathlib.Core.Path.{◌≡◌, refl, sym, ap, ◌∙◌}
use mathlib.Core.List.{List, [], ◌∷◌, ◌++◌}
use mathlib.Core.Bool.{Bool, true, false, ◌||◌, cond}
use mathlib.Core.Option.{Option, some, none}
use lib.Dec.{ltb}
use borrow.Author.Tests.{lt-ltb, le-ltb}
use lib.ListN.{length, length-append}
use Rattle.span.specs.Span.{Span, span, at, or_else, Ordered, Apart, Separate, Tidy, keep, joined}
use Rattle.span.specs.Operations.{Plain, common_parts, common, when, spans_overlap, merged, absorb, united, any, holds, links}
use Rattle.span.proofs.Tests.{below, among, beyond, place, in_yes, in_no, lt_cases}
use Rattle.span.proofs.Holding.{at_in, at_below, at_keep, at_app, ordered_from}
use Rattle.span.proofs.Laws.{the_only_one, never}
use Rattle.span.proofs.Sets.{common_means}
use Rattle.span.proofs.Union.{ordered_absorb, plain_absorb, or_assoc, holds_joint, links_joint, holds_absorb, links_absorb, holds_united, links_united, ordered_united, plain_united, the_only_links, at_plain}

-- A SET, span by span: from b on, ascending, no span empty, an instant free between each and the next, all labels 0
abbrev pub Spaced : ℕ → List Span → Type 0
Spaced b [] = Unit {0}
Spaced b (x ∷ xs) = (b ≤ x.lo) × (x.lo < x.hi) × (x.label ≡ 0) × Spaced (suc x.hi) xs

pub spaced_from : {b c : ℕ} (m : List Span) → c ≤ b → Spaced b m → Spaced c m
spaced_from [] h s = tt
spaced_from (x ∷ xs) h s = (omega arith, s.1, s.2, s.3)

pub spaced_ordered : (b : ℕ) (m : List Span) → Spaced b m → Ordered b m
spaced_ordered b [] s = tt
spaced_ordered b (x ∷ xs) s = (s.0, s.1, ordered_from {b = suc x.hi} xs (omega arith) (spaced_ordered (suc x.hi) xs s.3))

pub spaced_plain : (b : ℕ) (m : List Span) → Spaced b m → Plain m
spaced_plain b [] s = tt
spaced_plain b (x ∷ xs) s = (s.2, spaced_plain (suc x.hi) xs s.3)

apart_ordered : (x : Span) (xs : List Span) → Ordered (suc x.hi) xs → Apart x xs
apart_ordered x [] s = tt
apart_ordered x (y ∷ ys) s = λ j. omega arith

-- a tidy list that holds no label but 0 is so
next_spaced : (x : Span) (xs : List Span) → x.label ≡ 0 → Plain xs → Apart x xs → Ordered x.hi xs → Ordered (suc x.hi) xs
next_spaced x [] l p a o = tt
next_spaced x (y ∷ ys) l p a o = elim (dec_lt x.hi y.lo) [ yes h ↦ (omega arith, o.1, o.2) | no h ↦ absurd (a (record { touch = omega arith; alike = omega arith })) ]

pub tidy_spaced : (b : ℕ) (m : List Span) → Ordered b m → Separate m → Plain m → Spaced b m
tidy_spaced b [] o t p = tt
tidy_spaced b (x ∷ xs) o t p = (o.0, o.1, p.0, tidy_spaced (suc x.hi) xs (next_spaced x xs p.0 p.1 t.0 o.2) t.1 p.1)

-- INTERSECTION is the same either way
when_swap : (s t : Bool) → when (cond s (some 0) none) (cond t (some 0) none) ≡ when (cond t (some 0) none) (cond s (some 0) none)
when_swap true true = refl
when_swap true false = refl
when_swap false true = refl
when_swap false false = refl

pub common_swap : (a b : List Span) → Ordered 0 a → Ordered 0 b → Plain a → Plain b → common a b ≡ common b a
common_swap a b o q l m =
    let f = common_means a b o q in
    let g = common_means b a q o in
    the_only_one (common a b) (common b a) f.tidy g.tidy (λ k. f.holds k ∙ rw (at_plain a k l, at_plain b k m) (when_swap (any (holds k) a) (any (holds k) b)) ∙ sym (g.holds k))

-- what two spans have in common
unfoldable pub meet : Span → Span → List Span
meet x y = keep (span (max x.lo y.lo) (min x.hi y.hi) 0) []

meet_swap : (x y : Span) → meet x y ≡ meet y x
unfolding meet
meet_swap x y =
    let lo : max x.lo y.lo ≡ max y.lo x.lo = omega arith in
    let hi : min x.hi y.hi ≡ min y.hi x.hi = omega arith in
    rw (lo, hi)

-- an ordered list that holds nothing before c begins no sooner
starts_from : (b c : ℕ) (m : List Span) → Ordered b m → ((k : ℕ) → k < c → at m k ≡ none) → Ordered c m
starts_from b c [] o h = tt
starts_from b c (x ∷ xs) o h = elim (dec_lt x.lo c) [
  | yes p ↦ absurd (never (sym (h x.lo p) ∙ at_in x xs x.lo (omega arith)))
  | no p ↦ (omega arith, o.1, o.2)
]

tidy_meet : (lo hi : ℕ) (m : List Span) → Tidy 0 m → Ordered (suc hi) m → Tidy 0 (keep (span lo hi 0) [] ++ m)
unfolding keep
tidy_meet lo hi m t o = lt_cases lo hi (λ (l : List Span). Tidy 0 (l ++ m))
    (λ p. record { ordered = (omega arith, p, ordered_from {b = suc hi} m (omega arith) o); separate = (apart_ordered (span lo hi 0) m o, t.separate) })
    (λ p. t)

none_when : (a b : Option ℕ) → a ≡ none → when a b ≡ none
none_when a b e = rw e

module _ (x y : Span) (xs ys : List Span) (s : Spaced 0 (x ∷ xs)) (t : Spaced 0 (y ∷ ys)) (first : x.hi ≤ y.hi) where
  past_x : Ordered (suc x.hi) xs
  past_x = spaced_ordered (suc x.hi) xs s.3

  rest_from : Ordered (suc x.hi) (common xs (y ∷ ys))
  rest_from =
      let c = common_means xs (y ∷ ys) (ordered_from {b = suc x.hi} xs (omega arith) past_x) (spaced_ordered 0 (y ∷ ys) t) in
      starts_from 0 (suc x.hi) (common xs (y ∷ ys)) c.tidy.ordered (λ k h. c.holds k ∙ none_when _ _ (at_below xs k past_x h))

  at_meet : (k : ℕ) → when (at (x ∷ xs) k) (at (y ∷ ys) k) ≡ or_else (at (meet x y) k) (when (at xs k) (at (y ∷ ys) k))
  unfolding meet at
  at_meet k = rw (at_keep (span (max x.lo y.lo) (min x.hi y.hi) 0) [] k) (elim (place x.lo x.hi k) [
    | below p ↦ rw (in_no x.lo x.hi k (omega arith), in_no (max x.lo y.lo) (min x.hi y.hi) k (omega arith))
    | among p q ↦ rw (in_yes x.lo x.hi k (omega arith), at_below xs k past_x (omega arith)) (elim (dec_lt k y.lo) [
      | yes h ↦ rw (in_no (max x.lo y.lo) (min x.hi y.hi) k (omega arith), in_no y.lo y.hi k (omega arith)) (at_below ys k (spaced_ordered (suc y.hi) ys t.3) (omega arith))
      | no h ↦ rw (in_yes (max x.lo y.lo) (min x.hi y.hi) k (omega arith), in_yes y.lo y.hi k (omega arith)) (ap some t.2)
    ])
    | beyond p q ↦ rw (in_no x.lo x.hi k (omega arith), in_no (max x.lo y.lo) (min x.hi y.hi) k (omega arith))
  ])

  -- the first of the two that ends goes
  pub common_left : common (x ∷ xs) (y ∷ ys) ≡ meet x y ++ common xs (y ∷ ys)
  common_left =
      let f = common_means (x ∷ xs) (y ∷ ys) (spaced_ordered 0 (x ∷ xs) s) (spaced_ordered 0 (y ∷ ys) t) in
      let g = common_means xs (y ∷ ys) (ordered_from {b = suc x.hi} xs (omega arith) past_x) (spaced_ordered 0 (y ∷ ys) t) in
      the_only_one (common (x ∷ xs) (y ∷ ys)) (meet x y ++ common xs (y ∷ ys)) f.tidy (tidy g.tidy)
      (λ k. f.holds k ∙ at_meet k ∙ rw (at_app (meet x y) (common xs (y ∷ ys)) k, g.holds k))
    where
      tidy : Tidy 0 (common xs (y ∷ ys)) → Tidy 0 (meet x y ++ common xs (y ∷ ys))
      tidy g = unfold meet in tidy_meet (max x.lo y.lo) (min x.hi y.hi) (common xs (y ∷ ys)) g (ordered_from {b = suc x.hi} (common xs (y ∷ ys)) (omega arith) rest_from)

swapped : (a b : List Span) → Spaced 0 a → Spaced 0 b → common a b ≡ common b a
swapped a b s t = common_swap a b (spaced_ordered 0 a s) (spaced_ordered 0 b t) (spaced_plain 0 a s) (spaced_plain 0 b t)

pub common_right : (x y : Span) (xs ys : List Span) → Spaced 0 (x ∷ xs) → Spaced 0 (y ∷ ys) → y.hi ≤ x.hi → common (x ∷ xs) (y ∷ ys) ≡ meet x y ++ common (x ∷ xs) ys
common_right x y xs ys s t h =
    swapped (x ∷ xs) (y ∷ ys) s t ∙ common_left y x ys xs t s h ∙ rw (meet_swap y x, swapped ys (x ∷ xs) (spaced_from {b = suc y.hi} ys (omega arith) t.3) s)

pub common_none : (b : List Span) → common [] b ≡ []
unfolding common common_parts joined
common_none b = refl

pub common_no : (a : List Span) → Spaced 0 a → common a [] ≡ []
common_no a s = swapped a [] s tt ∙ common_none a

pub length_meet : (x y : Span) → length (meet x y) ≤ 1
unfolding meet keep
length_meet x y = lt_cases (max x.lo y.lo) (min x.hi y.hi) (λ (m : List Span). length m ≤ 1) (λ h. omega arith) (λ h. omega arith)

-- UNION is the same either way
or_flip : (s t : Bool) → (s || t) ≡ (t || s)
or_flip true true = refl
or_flip true false = refl
or_flip false true = refl
or_flip false false = refl

pub united_swap : (a b : List Span) → Ordered 0 a → Ordered 0 b → Plain a → Plain b → united a b ≡ united b a
united_swap a b o q l m =
    the_only_links (united a b) (united b a) (ordered_united 0 a b o q) (ordered_united 0 b a q o) (plain_united a b l m) (plain_united b a m l)
    (λ k. holds_united k a b o q ∙ or_flip (any (holds k) a) (any (holds k) b) ∙ sym (holds_united k b a q o))
    (λ k. links_united k a b o q ∙ or_flip (any (links k) a) (any (links k) b) ∙ sym (links_united k b a q o))

pub united_none : (b : List Span) → united [] b ≡ b
unfolding united
united_none b = refl

pub united_no : (a : List Span) → Spaced 0 a → united a [] ≡ a
united_no a s = united_swap a [] (spaced_ordered 0 a s) tt (spaced_plain 0 a s) tt ∙ united_none a

pub united_left : (x : Span) (xs b : List Span) → united (x ∷ xs) b ≡ absorb x (united xs b)
unfolding united
united_left x xs b = refl

pub united_right : (a : List Span) (y : Span) (ys : List Span) → Spaced 0 a → Spaced 0 (y ∷ ys) → united a (y ∷ ys) ≡ absorb y (united a ys)
united_right a y ys s t =
    let o = spaced_ordered 0 a s in
    let l = spaced_plain 0 a s in
    let r = spaced_from {b = suc y.hi} {c = 0} ys (omega arith) t.3 in
    united_swap a (y ∷ ys) o (spaced_ordered 0 (y ∷ ys) t) l (spaced_plain 0 (y ∷ ys) t) ∙ united_left y ys a
    ∙ ap (absorb y) (united_swap ys a (spaced_ordered 0 ys r) o (spaced_plain 0 ys r) l)

pub united_from : (c : ℕ) (a b : List Span) → Ordered c a → Ordered c b → Ordered c (united a b)
unfolding united
united_from c [] b o q = q
united_from c (x ∷ xs) b o q = ordered_absorb c x (united xs b) o.0 o.1 (united_from c xs b (ordered_from {b = x.hi} xs (omega arith) o.2) q)

-- a span that is past: all of the list comes after it
pub absorb_apart : (x : Span) (m : List Span) → x.lo < x.hi → Ordered x.hi m → absorb x m ≡ x ∷ m
unfolding absorb spans_overlap
absorb_apart x [] h o = refl
absorb_apart x (y ∷ ys) h o = rw (lt-ltb x.lo y.hi (omega arith), le-ltb y.lo x.hi (omega arith), lt-ltb x.lo y.lo (omega arith))

-- two spans that overlap, laid in one after the other, are laid in as one
pub absorb_both : (x y : Span) (m : List Span) → x.lo < x.hi → y.lo < y.hi → x.lo < y.hi → y.lo < x.hi → x.label ≡ 0 → y.label ≡ 0 → Ordered 0 m → Plain m
    → absorb x (absorb y m) ≡ absorb (merged x y) m
absorb_both x y m h i f g l n o p =
    let inner = ordered_absorb 0 y m (omega arith) i o in
    let full : (merged x y).lo < (merged x y).hi = full_merged in
    the_only_links (absorb x (absorb y m)) (absorb (merged x y) m)
    (ordered_absorb 0 x (absorb y m) (omega arith) h inner) (ordered_absorb 0 (merged x y) m (omega arith) full o)
    (plain_absorb x (absorb y m) l (plain_absorb y m n p)) (plain_absorb (merged x y) m label_merged p)
    (λ k. holds_absorb k 0 x (absorb y m) h inner ∙ ap (λ (t : Bool). holds k x || t) (holds_absorb k 0 y m i o) ∙ sym (or_assoc (holds k x) (holds k y) (any (holds k) m))
    ∙ ap (λ (t : Bool). t || any (holds k) m) (sym (holds_joint k x y h i f g)) ∙ sym (holds_absorb k 0 (merged x y) m full o))
    (λ k. links_absorb k 0 x (absorb y m) h inner ∙ ap (λ (t : Bool). links k x || t) (links_absorb k 0 y m i o) ∙ sym (or_assoc (links k x) (links k y) (any (links k) m))
    ∙ ap (λ (t : Bool). t || any (links k) m) (sym (links_joint k x y h i f g)) ∙ sym (links_absorb k 0 (merged x y) m full o))
  where
    full_merged : (merged x y).lo < (merged x y).hi
    full_merged = unfold merged in omega arith

    label_merged : (merged x y).label ≡ 0
    label_merged = unfold merged in l

-- the span c, and then one that starts no sooner: does it overlap c, and what is then still open
unfoldable pub grown : Span → Span → Span
grown c x = span (cond (ltb x.lo c.hi) c.lo x.lo) (max c.hi x.hi) 0

-- UNION, one span more: c is done if the next does not overlap it
pub absorb_step : (c x : Span) (m : List Span) → c.lo < c.hi → x.lo < x.hi → c.lo ≤ x.lo → c.label ≡ 0 → x.label ≡ 0 → Ordered c.lo m → Plain m → (c.hi ≤ x.lo → Ordered c.hi m)
    → absorb c (absorb x m) ≡ cond (ltb x.lo c.hi) (absorb (grown c x) m) (c ∷ absorb (grown c x) m)
unfolding grown
absorb_step c x m h i f l n o p q = elim (dec_lt x.lo c.hi) [
  | yes g ↦
      let lo : min c.lo x.lo ≡ c.lo = omega arith in
      rw (lt-ltb x.lo c.hi g) (absorb_both c x m h i (omega arith) g l n (ordered_from {b = c.lo} m (omega arith) o) p ∙ joined_is lo)
  | no g ↦
      let r = q (omega arith) in
      rw (le-ltb x.lo c.hi (omega arith)) (absorb_apart c (absorb x m) h (ordered_absorb c.hi x m (omega arith) i r) ∙ fresh_is (omega arith))
]
  where
    joined_is : min c.lo x.lo ≡ c.lo → absorb (merged c x) m ≡ absorb (span c.lo (max c.hi x.hi) 0) m
    joined_is lo = unfold merged in rw (lo, l)

    fresh_is : c.hi ≤ x.lo → c ∷ absorb x m ≡ c ∷ absorb (span x.lo (max c.hi x.hi) 0) m
    fresh_is g = let hi : max c.hi x.hi ≡ x.hi = omega arith in rw (hi, ← n)

-- and it is never done with nothing open
pub absorb_some : (x : Span) (m : List Span) → 0 < length (absorb x m)
unfolding absorb
absorb_some x [] = omega arith
absorb_some x (y ∷ ys) = go (spans_overlap x y) (ltb x.lo y.lo) (absorb_some (merged x y) ys)
  where
    go : (s t : Bool) → 0 < length (absorb (merged x y) ys)
        → 0 < length (cond s (absorb (cond s (merged x y) x) ys) (cond t (x ∷ y ∷ ys) (y ∷ absorb (cond s (merged x y) x) ys)))
    go true t one = one
    go false true one = omega arith
    go false false one = omega arith

-- at most one for each span
pub length_absorb : (x : Span) (m : List Span) → length (absorb x m) ≤ suc (length m)
unfolding absorb
length_absorb x [] = omega arith
length_absorb x (y ∷ ys) = go (spans_overlap x y) (ltb x.lo y.lo) (length_absorb (merged x y) ys) (length_absorb x ys)
  where
    go : (s t : Bool) → length (absorb (merged x y) ys) ≤ suc (length ys) → length (absorb x ys) ≤ suc (length ys)
        → length (cond s (absorb (cond s (merged x y) x) ys) (cond t (x ∷ y ∷ ys) (y ∷ absorb (cond s (merged x y) x) ys))) ≤ suc (suc (length ys))
    go true t one two = omega arith
    go false true one two = omega arith
    go false false one two = omega arith

pub length_united : (a b : List Span) → length (united a b) ≤ length a + length b
unfolding united
length_united [] b = omega arith
length_united (x ∷ xs) b = omega (arith, length_absorb x (united xs b), length_united xs b)

-- the intersection has fewer spans than the two sets together
few_common : (n : ℕ) (a b : List Span) → length a + length b ≤ n → Spaced 0 a → Spaced 0 b → length (common a b) ≤ length a + length b - 1
few_common n [] b h s t = rw (common_none b) (omega arith)
few_common n (x ∷ xs) [] h s t = rw (common_no (x ∷ xs) s) (omega arith)
few_common zero (x ∷ xs) (y ∷ ys) h s t = absurd (omega arith)
few_common (suc n) (x ∷ xs) (y ∷ ys) h s t =
    let one = few_common n xs (y ∷ ys) (omega arith) (spaced_from {b = suc x.hi} xs (omega arith) s.3) t in
    let two = few_common n (x ∷ xs) ys (omega arith) s (spaced_from {b = suc y.hi} ys (omega arith) t.3) in
    elim (dec_lt x.hi y.hi) [
      | yes p ↦ rw (common_left x y xs ys s t (omega arith), length-append) (omega (arith, length_meet x y))
      | no p ↦ rw (common_right x y xs ys s t (omega arith), length-append) (omega (arith, length_meet x y))
    ]

pub length_common : (a b : List Span) → Spaced 0 a → Spaced 0 b → length (common a b) ≤ length a + length b - 1
length_common a b s t = few_common (length a + length b) a b (omega arith) s t
