-- The query for the stored range that ranges-overlap or ranges-touch the start: where the list is parted into what ends before lo and what does not,
-- the candidate is the first of the second part, if it starts by lo.
use Prim.Native.Nat.{ℕ, zero, suc, ◌≤◌, ◌<◌, min, max}
use native.Mathlib.Omega.{arith}
use native.Mathlib.Decide.{dec_lt}
use mathlib.Core.Path.{◌≡◌, refl, ap}
use mathlib.Core.List.{List, [], ◌∷◌, ◌++◌, append-nil}
use mathlib.Core.Bool.{Bool, cond}
use mathlib.Core.Option.{some, none}
use borrow.Author.Tests.{lt-ltb, le-ltb, le-leb, lt-leb}
use Rattle.span.specs.Span.{Span, Ordered}
use Rattle.span.proofs.Tests.{cases}
use Rattle.span.proofs.Holding.{ordered_from}
use Rattle.span.proofs.Local.{EndsBefore}
use Rattle.rust_algorithm.specs.Btree.{filtered, reversed, taken, up_to}
use Rattle.rust_algorithm.specs.Map.{rust_ranges_overlap, rust_ranges_touch, candidate, remove_candidate}

-- the first of the list, if there is one, ends at c or later
abbrev pub Reaches : ℕ → List Span → Type 0
Reaches c [] = Unit {0}
Reaches c (x ∷ xs) = c ≤ x.hi

pub record Parted (c : ℕ) (m : List Span) : Type 0 where
  pub left : List Span
  pub right : List Span
  pub whole : m ≡ left ++ right
  pub ends : EndsBefore c left
  pub reaches : Reaches c right

pub part : (c : ℕ) (m : List Span) → Parted c m
part c [] = record { left = []; right = []; whole = refl; ends = tt; reaches = tt }
part c (x ∷ xs) = let p = part c xs in elim (dec_lt x.hi c) [
  | yes h ↦ record { left = x ∷ p.left; right = p.right; whole = ap (x ∷◌) p.whole; ends = (h, p.ends); reaches = p.reaches }
  | no h ↦ record { left = []; right = x ∷ xs; whole = refl; ends = tt; reaches = omega arith }
]

-- ending before c goes through the query
pub ends_filtered : (c : ℕ) (p : Span → Bool) (m : List Span) → EndsBefore c m → EndsBefore c (filtered p m)
unfolding filtered
ends_filtered c p [] e = tt
ends_filtered c p (x ∷ xs) e = let ih = ends_filtered c p xs e.1 in cases (p x) (EndsBefore c) (λ t. (e.0, ih)) (λ t. ih)

pub ends_snoc : (c : ℕ) (m : List Span) (x : Span) → EndsBefore c m → x.hi < c → EndsBefore c (m ++ x ∷ [])
ends_snoc c [] x e h = (h, tt)
ends_snoc c (y ∷ ys) x e h = (e.0, ends_snoc c ys x e.1 h)

pub ends_reversed : (c : ℕ) (m : List Span) → EndsBefore c m → EndsBefore c (reversed m)
unfolding reversed
ends_reversed c [] e = tt
ends_reversed c (x ∷ xs) e = ends_snoc c (reversed xs) x (ends_reversed c xs e.1) e.0

pub ends_taken : (c n : ℕ) (m : List Span) → EndsBefore c m → EndsBefore c (taken n m)
unfolding taken
ends_taken c zero m e = tt
ends_taken c (suc n) [] e = tt
ends_taken c (suc n) (x ∷ xs) e = (e.0, ends_taken c n xs e.1)

pub filtered_app : (p : Span → Bool) (xs ys : List Span) → filtered p (xs ++ ys) ≡ filtered p xs ++ filtered p ys
unfolding filtered
filtered_app p [] ys = refl
filtered_app p (x ∷ xs) ys =
    rw (filtered_app p xs ys) (cases (p x) (λ (m : List Span). m ≡ cond (p x) (x ∷ filtered p xs) (filtered p xs) ++ filtered p ys) (λ t. rw t) (λ t. rw t))

pub reversed_one : (m : List Span) (x : Span) → reversed (m ++ x ∷ []) ≡ x ∷ reversed m
unfolding reversed
reversed_one [] x = refl
reversed_one (y ∷ ys) x = rw (reversed_one ys x)

reversed_two : (m : List Span) (x y : Span) → reversed (m ++ x ∷ y ∷ []) ≡ y ∷ x ∷ reversed m
unfolding reversed
reversed_two [] x y = refl
reversed_two (z ∷ zs) x y = rw (reversed_two zs x y)

-- what starts past s is left out
pub up_to_none : (s : ℕ) (m : List Span) → Ordered (suc s) m → up_to s m ≡ []
unfolding up_to filtered
up_to_none s [] o = refl
up_to_none s (x ∷ xs) o = rw (lt-leb x.lo s o.0) (up_to_none s xs (ordered_from xs (omega arith) o.2))

pub up_to_app : (s : ℕ) (xs ys : List Span) → up_to s (xs ++ ys) ≡ up_to s xs ++ up_to s ys
unfolding up_to
up_to_app s xs ys = filtered_app _ xs ys

pub up_to_here : (s : ℕ) (x : Span) (xs : List Span) → x.lo ≤ s → up_to s (x ∷ xs) ≡ x ∷ up_to s xs
unfolding up_to filtered
up_to_here s x xs h = rw (le-leb x.lo s h)

-- the candidates of insert
module _ (lo hi : ℕ) (real : lo < hi) where
  -- nothing that ends before lo ranges-touch
  none_touch : (m : List Span) → EndsBefore lo m → filtered (λ x. rust_ranges_touch x.lo x.hi lo hi) m ≡ []
  unfolding filtered rust_ranges_touch
  none_touch [] e = refl
  none_touch (x ∷ xs) e = rw (lt-leb (max x.lo lo) (min x.hi hi) (omega arith)) (none_touch xs e.1)

  touch : (x : Span) (xs : List Span) → x.lo ≤ lo → lo ≤ x.hi
      → filtered (λ x. rust_ranges_touch x.lo x.hi lo hi) (x ∷ xs) ≡ x ∷ filtered (λ x. rust_ranges_touch x.lo x.hi lo hi) xs
  unfolding filtered rust_ranges_touch
  touch x xs h i = rw (le-leb (max x.lo lo) (min x.hi hi) (omega arith))

  module _ (ls : List Span) (ends : EndsBefore lo ls) where
    gone : (n : ℕ) → filtered (λ x. rust_ranges_touch x.lo x.hi lo hi) (taken n (reversed (up_to lo ls))) ≡ []
    unfolding up_to
    gone n = none_touch _ (ends_taken lo n _ (ends_reversed lo _ (ends_filtered lo _ ls ends)))

    pub candidate_none : (rest : List Span) → Ordered (suc lo) rest → candidate lo hi (ls ++ rest) ≡ none
    unfolding candidate
    candidate_none rest o = rw (up_to_app lo ls rest, up_to_none lo rest o, append-nil (up_to lo ls), gone 2)

    -- one that starts by lo
    one : (x : Span) (xs : List Span) → x.lo ≤ lo → lo ≤ x.hi → Ordered (suc lo) xs → candidate lo hi (ls ++ x ∷ xs) ≡ some x
    unfolding candidate taken
    one x xs h i o = rw (
      up_to_app lo ls (x ∷ xs),
      up_to_here lo x xs h,
      up_to_none lo xs o,
      reversed_one (up_to lo ls) x,
      touch x (taken 1 (reversed (up_to lo ls))) h i,
      gone 1,
    )

    -- two: the second starts where the first ends
    two : (x y : Span) (ys : List Span) → x.lo ≤ lo → lo ≤ x.hi → y.lo ≤ lo → lo < y.hi → Ordered y.hi ys → candidate lo hi (ls ++ x ∷ y ∷ ys) ≡ some x
    unfolding candidate taken
    two x y ys h i j k o =
        rw (
          up_to_app lo ls (x ∷ y ∷ ys),
          up_to_here lo x (y ∷ ys) h,
          up_to_here lo y ys j,
          up_to_none lo ys (ordered_from ys k o),
          reversed_two (up_to lo ls) x y,
          touch y (x ∷ []) j (omega arith),
          touch x [] h i,
        )

    pub candidate_first : (x : Span) (xs : List Span) → x.lo ≤ lo → lo ≤ x.hi → Ordered x.hi xs → candidate lo hi (ls ++ x ∷ xs) ≡ some x
    candidate_first x [] h i o = one x [] h i tt
    candidate_first x (y ∷ ys) h i o = elim (dec_lt lo y.lo) [
      | yes p ↦ one x (y ∷ ys) h i (p, o.1, o.2)
      | no p ↦ two x y ys h i (omega arith) (omega arith) o.2
    ]

-- the candidate of remove
module _ (lo hi : ℕ) (real : lo < hi) where
  none_overlaps : (m : List Span) → EndsBefore (suc lo) m → filtered (λ x. rust_ranges_overlap x.lo x.hi lo hi) m ≡ []
  unfolding filtered rust_ranges_overlap
  none_overlaps [] e = refl
  none_overlaps (x ∷ xs) e = rw (le-ltb (max x.lo lo) (min x.hi hi) (omega arith)) (none_overlaps xs e.1)

  module _ (ls : List Span) (ends : EndsBefore (suc lo) ls) where
    pub remove_none : (rest : List Span) → Ordered (suc lo) rest → remove_candidate lo hi (ls ++ rest) ≡ none
    unfolding remove_candidate up_to
    remove_none rest o = rw (
      up_to_app lo ls rest,
      up_to_none lo rest o,
      append-nil (up_to lo ls),
      none_overlaps _ (ends_taken (suc lo) 1 _ (ends_reversed (suc lo) _ (ends_filtered (suc lo) _ ls ends))),
    )

    pub remove_first : (x : Span) (xs : List Span) → x.lo ≤ lo → lo < x.hi → Ordered x.hi xs → remove_candidate lo hi (ls ++ x ∷ xs) ≡ some x
    unfolding remove_candidate taken filtered rust_ranges_overlap
    remove_first x xs h i o = rw (
      up_to_app lo ls (x ∷ xs),
      up_to_here lo x xs h,
      up_to_none lo xs (ordered_from xs i o),
      reversed_one (up_to lo ls) x,
      lt-ltb (max x.lo lo) (min x.hi hi) (omega arith),
    )
