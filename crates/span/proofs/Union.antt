-- Union as rangemap has it: what it holds, which neighbours it keeps together, and that it is the only one.
use Prim.Native.Nat.{ℕ, ◌+◌, ◌*◌, ◌-◌, ◌/◌, ◌%◌, ◌≤◌, ◌<◌, min, max}
use native.Mathlib.Omega.{arith}
use native.Mathlib.Decide.{dec_lt, ℕ_discrete}
use mathlib.Core.Path.{◌≡◌, refl, ap, sym, ◌∙◌}
use mathlib.Core.Logic.{◌≢◌}
use mathlib.Core.List.{List, [], ◌∷◌}
use mathlib.Core.Bool.{Bool, true, false, ◌||◌, cond}
use mathlib.Core.Option.{Option, some, none}
use lib.Dec.{ltb}
use borrow.Author.Tests.{lt-ltb, le-ltb}
use Rattle.span.specs.Span.{Span, span, inside, at, or_else, Ordered, Apart, Separate, Tidy, joined}
use Rattle.span.specs.Operations.{Plain, laid_over, spans_overlap, merged, absorb, united, any, holds, links}
use Rattle.span.proofs.Tests.{below, among, beyond, place, in_yes, in_no, in_same}
use Rattle.span.proofs.Holding.{ordered_from}
use Rattle.span.proofs.Laws.{the_only_one, only, reworded, itself, joined_means}
use Rattle.span.proofs.Sets.{over_means}

-- x and y overlap, or x comes first, or y does; and so the tests say
data Lie (x y : Span) : Type 0 where
  overlap : x.lo < y.hi → y.lo < x.hi → spans_overlap x y ≡ true → Lie x y
  first : x.hi ≤ y.lo → spans_overlap x y ≡ false → ltb x.lo y.lo ≡ true → Lie x y
  second : y.hi ≤ x.lo → spans_overlap x y ≡ false → ltb x.lo y.lo ≡ false → Lie x y

lie : (x y : Span) → x.lo < x.hi → y.lo < y.hi → Lie x y
unfolding spans_overlap
lie x y h i = elim (dec_lt x.lo y.hi) [
  | yes p ↦ elim (dec_lt y.lo x.hi) [
    | yes q ↦ overlap p q (rw (lt-ltb x.lo y.hi p, lt-ltb y.lo x.hi q))
    | no q ↦ first (omega arith) (rw (lt-ltb x.lo y.hi p, le-ltb y.lo x.hi (omega arith))) (lt-ltb x.lo y.lo (omega arith))
  ]
  | no p ↦ second (omega arith) (rw (le-ltb x.lo y.hi (omega arith))) (le-ltb x.lo y.lo (omega arith))
]

pub ordered_absorb : (b : ℕ) (x : Span) (m : List Span) → b ≤ x.lo → x.lo < x.hi → Ordered b m → Ordered b (absorb x m)
unfolding absorb merged
ordered_absorb b x [] h i o = (h, i, tt)
ordered_absorb b x (y ∷ ys) h i o =
    let one : Ordered b (absorb (merged x y) ys) = ordered_absorb b (merged x y) ys (omega arith) (omega arith) (ordered_from {b = y.hi} ys (omega arith) o.2) in
    elim (lie x y i o.1) [
      | overlap p q e ↦ rw e one
      | first p e f ↦ rw (e, f) (h, i, (p, o.1, o.2))
      | second p e f ↦ rw (e, f) (o.0, o.1, ordered_absorb y.hi x ys p i o.2)
    ]

pub ordered_united : (c : ℕ) (a b : List Span) → Ordered c a → Ordered 0 b → Ordered 0 (united a b)
unfolding united
ordered_united c [] b o q = q
ordered_united c (x ∷ xs) b o q = ordered_absorb 0 x (united xs b) (omega arith) o.1 (ordered_united x.hi xs b o.2 q)

pub plain_absorb : (x : Span) (m : List Span) → x.label ≡ 0 → Plain m → Plain (absorb x m)
unfolding absorb merged
plain_absorb x [] h l = (h, tt)
plain_absorb x (y ∷ ys) h l = go (spans_overlap x y) (ltb x.lo y.lo) (plain_absorb (merged x y) ys h l.1) (plain_absorb x ys h l.1)
  where
    go : (s t : Bool) → Plain (absorb (merged x y) ys) → Plain (absorb x ys)
        → Plain (cond s (absorb (cond s (merged x y) x) ys) (cond t (x ∷ y ∷ ys) (y ∷ absorb (cond s (merged x y) x) ys)))
    go true t one two = one
    go false true one two = (h, l)
    go false false one two = (l.0, two)

pub plain_united : (a b : List Span) → Plain a → Plain b → Plain (united a b)
unfolding united
plain_united [] b l m = m
plain_united (x ∷ xs) b l m = plain_absorb x (united xs b) l.0 (plain_united xs b l.1 m)

pub or_assoc : (a b c : Bool) → ((a || b) || c) ≡ (a || (b || c))
or_assoc true b c = refl
or_assoc false b c = refl

or_swap : (a b c : Bool) → (a || (b || c)) ≡ (b || (a || c))
or_swap true true c = refl
or_swap true false c = refl
or_swap false b c = refl

-- a test that merged spans pass just where one of the two does is passed in the union just where it is passed in one of the two lists
module _ (p : Span → Bool) (joint : (x y : Span) → x.lo < x.hi → y.lo < y.hi → x.lo < y.hi → y.lo < x.hi → p (merged x y) ≡ (p x || p y)) where
  any_absorb : (b : ℕ) (x : Span) (m : List Span) → x.lo < x.hi → Ordered b m → any p (absorb x m) ≡ (p x || any p m)
  unfolding any absorb merged
  any_absorb b x [] h o = refl
  any_absorb b x (y ∷ ys) h o =
      let one : any p (absorb (merged x y) ys) ≡ (p (merged x y) || any p ys) = any_absorb y.hi (merged x y) ys (omega arith) o.2 in
      let two : any p (absorb x ys) ≡ (p x || any p ys) = any_absorb y.hi x ys h o.2 in
      elim (lie x y h o.1) [
        | overlap q r e ↦ rw e (one ∙ rw (joint x y h o.1 q r) (or_assoc (p x) (p y) (any p ys)))
        | first q e f ↦ rw (e, f)
        | second q e f ↦ rw (e, f, two) (or_swap (p y) (p x) (any p ys))
      ]

  any_united : (c : ℕ) (a b : List Span) → Ordered c a → Ordered 0 b → any p (united a b) ≡ (any p a || any p b)
  unfolding any united
  any_united c [] b o q = refl
  any_united c (x ∷ xs) b o q = any_absorb 0 x (united xs b) o.1 (ordered_united x.hi xs b o.2 q)
      ∙ rw (any_united x.hi xs b o.2 q) (sym (or_assoc (p x) (any p xs) (any p b)))

-- ranges that meet: what lies in the whole lies in one of them
in_hull : (a b c d k : ℕ) → a ≤ b → c ≤ d → a ≤ d → c ≤ b → inside (min a c) (max b d) k ≡ (inside a b k || inside c d k)
in_hull a b c d k h i f g = elim (place a b k) [
  | below p ↦ rw (in_no a b k (omega arith)) (in_same (omega arith) (omega arith))
  | among p q ↦ rw (in_yes a b k (omega arith), in_yes (min a c) (max b d) k (omega arith))
  | beyond p q ↦ rw (in_no a b k (omega arith)) (in_same (omega arith) (omega arith))
]

links_inside : (k : ℕ) (x : Span) → links k x ≡ inside x.lo (x.hi - 1) k
unfolding links holds
links_inside k x = elim (place x.lo x.hi k) [
  | below p ↦ rw (in_no x.lo x.hi k (omega arith), in_no x.lo (x.hi - 1) k (omega arith))
  | among p q ↦ rw (in_yes x.lo x.hi k (omega arith)) (in_same (omega arith) (omega arith))
  | beyond p q ↦ rw (in_no x.lo x.hi k (omega arith), in_no x.lo (x.hi - 1) k (omega arith))
]

pub links_joint : (k : ℕ) (x y : Span) → x.lo < x.hi → y.lo < y.hi → x.lo < y.hi → y.lo < x.hi → links k (merged x y) ≡ (links k x || links k y)
unfolding merged
links_joint k x y h i f g =
    rw (links_inside k x, links_inside k y, links_inside k (merged x y), ← in_hull x.lo (x.hi - 1) y.lo (y.hi - 1) k (omega arith) (omega arith) (omega arith) (omega arith))
    (in_same (omega arith) (omega arith))

pub holds_joint : (k : ℕ) (x y : Span) → x.lo < x.hi → y.lo < y.hi → x.lo < y.hi → y.lo < x.hi → holds k (merged x y) ≡ (holds k x || holds k y)
unfolding holds merged
holds_joint k x y h i f g = in_hull x.lo x.hi y.lo y.hi k (omega arith) (omega arith) (omega arith) (omega arith)

-- the instants, and the pairs of neighbours, of a list with a span laid into it
module _ (k b : ℕ) (x : Span) (m : List Span) (full : x.lo < x.hi) (o : Ordered b m) where
  pub holds_absorb : any (holds k) (absorb x m) ≡ (holds k x || any (holds k) m)
  holds_absorb = any_absorb (holds k) (holds_joint k) b x m full o

  pub links_absorb : any (links k) (absorb x m) ≡ (links k x || any (links k) m)
  links_absorb = any_absorb (links k) (links_joint k) b x m full o

-- UNION holds the instants of either
pub holds_united : (k : ℕ) (a b : List Span) → Ordered 0 a → Ordered 0 b → any (holds k) (united a b) ≡ (any (holds k) a || any (holds k) b)
holds_united k a b o q = any_united (holds k) (holds_joint k) 0 a b o q

-- and two neighbours lie in one of its spans exactly when one span of either holds both
pub links_united : (k : ℕ) (a b : List Span) → Ordered 0 a → Ordered 0 b → any (links k) (united a b) ≡ (any (links k) a || any (links k) b)
links_united k a b o q = any_united (links k) (links_joint k) 0 a b o q

-- each instant k at 2k, and the step from k to the next at 2k + 1: there, spans that only touch lie apart
doubled : List Span → List Span
doubled [] = []
doubled (x ∷ xs) = span (2 * x.lo) (2 * x.hi - 1) x.label ∷ doubled xs

halved : List Span → List Span
halved [] = []
halved (x ∷ xs) = span (x.lo / 2) ((x.hi + 1) / 2) x.label ∷ halved xs

halved_doubled : (b : ℕ) (m : List Span) → Ordered b m → halved (doubled m) ≡ m
unfolding doubled halved
halved_doubled b [] o = refl
halved_doubled b (x ∷ xs) o =
    let lo : 2 * x.lo / 2 ≡ x.lo = omega arith in
    let hi : (2 * x.hi - 1 + 1) / 2 ≡ x.hi = omega arith in
    rw (lo, hi, halved_doubled x.hi xs o.2)

ordered_doubled : (b : ℕ) (m : List Span) → Ordered b m → Ordered (2 * b) (doubled m)
unfolding doubled
ordered_doubled b [] o = tt
ordered_doubled b (x ∷ xs) o = (omega arith, omega arith, ordered_from {b = 2 * x.hi} (doubled xs) (omega arith) (ordered_doubled x.hi xs o.2))

apart_doubled : (x : Span) (xs : List Span) → Ordered x.hi xs → x.lo < x.hi → Apart (span (2 * x.lo) (2 * x.hi - 1) x.label) (doubled xs)
unfolding doubled
apart_doubled x [] o h = tt
apart_doubled x (y ∷ ys) o h = omega arith

separate_doubled : (b : ℕ) (m : List Span) → Ordered b m → Separate (doubled m)
unfolding doubled
separate_doubled b [] o = tt
separate_doubled b (x ∷ xs) o = (apart_doubled x xs o.2 o.1, separate_doubled x.hi xs o.2)

cond_or : (t u : Bool) (v : ℕ) → v ≡ 0 → cond {A = Option ℕ} t (some v) (cond u (some 0) none) ≡ cond (t || u) (some 0) none
cond_or true u v h = ap some h
cond_or false u v h = refl

at_doubled : (p : Span → Bool) (j : ℕ) → ((x : Span) → inside (2 * x.lo) (2 * x.hi - 1) j ≡ p x) → (m : List Span) → Plain m → at (doubled m) j ≡ cond (any p m) (some 0) none
unfolding at doubled any
at_doubled p j fits [] l = refl
at_doubled p j fits (x ∷ xs) l = rw (fits x, at_doubled p j fits xs l.1) (cond_or (p x) (any p xs) x.label l.0)

-- THE ONLY ONE: ordered sets that hold the same instants and the same pairs of neighbours are equal
pub the_only_links : (xs ys : List Span) → Ordered 0 xs → Ordered 0 ys → Plain xs → Plain ys
    → ((k : ℕ) → any (holds k) xs ≡ any (holds k) ys) → ((k : ℕ) → any (links k) xs ≡ any (links k) ys) → xs ≡ ys
the_only_links xs ys o q l m e f =
    sym (halved_doubled 0 xs o) ∙ ap halved (the_only_one (doubled xs) (doubled ys) (tidy xs o) (tidy ys q) each) ∙ halved_doubled 0 ys q
  where
    tidy : (m : List Span) → Ordered 0 m → Tidy (2 * 0) (doubled m)
    tidy m o = record { ordered = ordered_doubled 0 m o; separate = separate_doubled 0 m o }

    even : (j : ℕ) → j % 2 ≡ 0 → (x : Span) → inside (2 * x.lo) (2 * x.hi - 1) j ≡ holds (j / 2) x
    even j h x = unfold holds in in_same (omega arith) (omega arith)

    odd : (j : ℕ) → j % 2 ≢ 0 → (x : Span) → inside (2 * x.lo) (2 * x.hi - 1) j ≡ links (j / 2) x
    odd j h x = in_same (omega arith) (omega arith) ∙ sym (links_inside (j / 2) x)

    each : (j : ℕ) → at (doubled xs) j ≡ at (doubled ys) j
    each j = elim (ℕ_discrete (j % 2) 0) [
      | yes h ↦ rw (at_doubled (holds (j / 2)) j (even j h) xs l, at_doubled (holds (j / 2)) j (even j h) ys m, e (j / 2))
      | no h ↦ rw (at_doubled (links (j / 2)) j (odd j h) xs l, at_doubled (links (j / 2)) j (odd j h) ys m, f (j / 2))
    ]

-- what a set holds, by the test
pub at_plain : (m : List Span) (k : ℕ) → Plain m → at m k ≡ cond (any (holds k) m) (some 0) none
unfolding at any holds
at_plain [] k l = refl
at_plain (x ∷ xs) k l = rw (at_plain xs k l.1) (cond_or (inside x.lo x.hi k) (any (holds k) xs) x.label l.0)

pub or_plain : (s t : Bool) → cond {A = Option ℕ} (s || t) (some 0) none ≡ or_else (cond s (some 0) none) (cond t (some 0) none)
or_plain true t = refl
or_plain false t = refl

-- the two unions: with the spans that touch joined, rangemap's is the one in maximal spans
pub united_joined : (a b : List Span) → Ordered 0 a → Tidy 0 b → Plain a → Plain b → joined (united a b) ≡ laid_over a b
united_joined a b o u l m =
    only (reworded (joined_means (united a b) (ordered_united 0 a b o u.ordered))
    (λ k. at_plain (united a b) k (plain_united a b l m) ∙ rw (holds_united k a b o u.ordered, at_plain a k l, at_plain b k m) (or_plain (any (holds k) a) (any (holds k) b))))
    (over_means a b o (itself u))
