-- What rangemap's get_key_value, contains_key, overlapping, overlaps, eq and cmp answer, of both kinds, is what a filter of the entries, `any` and `span_order` say.
use Prim.Native.Nat.{ℕ, suc, ◌-◌, ◌≤◌, ◌<◌, Ordering}
use native.Mathlib.Omega.{arith}
use native.Mathlib.Decide.{dec_lt, ℕ_discrete}
use mathlib.Core.Path.{◌≡◌, refl, ap, sym, fun_ext, ◌∙◌}
use mathlib.Core.List.{List, [], ◌∷◌, ◌++◌, append-nil}
use mathlib.Core.Bool.{Bool, true, false, ◌&&◌, ◌||◌, cond}
use mathlib.Core.Option.{some, none}
use lib.Dec.{ltb, leb, eqb}
use borrow.Author.Tests.{lt-ltb, le-ltb, eq-eqb, ne_eqb}
use Rattle.span.specs.Span.{Span, span, inside, at, Ordered, Upto}
use Rattle.span.specs.Operations.{spans_overlap, any, holds, flat, lex, span_order}
use Rattle.span.proofs.Tests.{in_yes, in_no}
use Rattle.span.proofs.Holding.{ordered_from, ordered_right}
use Rattle.span.proofs.Local.{EndsBefore}
use Rattle.outcomes.specs.Outcomes.{is_equal}
use Rattle.rust_algorithm.specs.Btree.{if_let, is_some, filtered, taken_while, reversed, taken, next, up_to}
use Rattle.rust_algorithm.specs.Map.{map_get_key_value, map_get, map_contains_key, ending_past, map_overlapping, map_overlapping_back, map_overlaps}
use Rattle.rust_algorithm.specs.Map.{map_eq, number_cmp, cmp_then, map_cmp}
use Rattle.rust_algorithm.specs.InclusiveMap.{inclusive_range_contains, inclusive_get_key_value, inclusive_get, inclusive_contains_key}
use Rattle.rust_algorithm.specs.InclusiveMap.{inclusive_overlapping, inclusive_overlapping_back, inclusive_overlaps, inclusive_eq, inclusive_cmp}
use Rattle.rust_algorithm.proofs.Candidate.{Reaches, part, ends_filtered, ends_reversed, ends_taken, filtered_app}
use Rattle.rust_algorithm.proofs.Candidate.{reversed_one, up_to_app, up_to_here, up_to_none}
use Rattle.rust_algorithm.proofs.Gaps.{ordered_past}
use Rattle.rust_algorithm.proofs.InclusiveEdits.{Sound, sound, sound_near, filtered_same, leb_ltb, ltb_same}
use Rattle.rust_algorithm.proofs.InclusiveGaps.{ending_same}

-- FILTERS
filtered_and : (p q : Span → Bool) (m : List Span) → filtered p (filtered q m) ≡ filtered (λ x. q x && p x) m
unfolding filtered
filtered_and p q [] = refl
filtered_and p q (x ∷ xs) = go (q x) (filtered_and p q xs)
  where
    go : (t : Bool) → filtered p (filtered q xs) ≡ filtered (λ y. q y && p y) xs
        → filtered p (cond t (x ∷ filtered q xs) (filtered q xs)) ≡ cond (t && p x) (x ∷ filtered (λ y. q y && p y) xs) (filtered (λ y. q y && p y) xs)
    go true e = unfold filtered in rw e
    go false e = e

-- is there a first that passes
some_any : (p : Span → Bool) (m : List Span) → is_some (next (filtered p m)) ≡ any p m
unfolding filtered any
some_any p [] = refl
some_any p (x ∷ xs) = go (p x) (some_any p xs)
  where
    go : (t : Bool) → is_some (next (filtered p xs)) ≡ any p xs → is_some (next (cond t (x ∷ filtered p xs) (filtered p xs))) ≡ (t || any p xs)
    go true e = refl
    go false e = e

filtered_reversed : (p : Span → Bool) (m : List Span) → filtered p (reversed m) ≡ reversed (filtered p m)
unfolding reversed filtered
filtered_reversed p [] = refl
filtered_reversed p (x ∷ xs) = filtered_app p (reversed xs) (x ∷ []) ∙ rw (filtered_reversed p xs) (go (p x))
  where
    go : (t : Bool) → reversed (filtered p xs) ++ cond t (x ∷ []) [] ≡ reversed (cond t (x ∷ filtered p xs) (filtered p xs))
    go true = unfold reversed in refl
    go false = append-nil (reversed (filtered p xs))

-- GET: of a key
module _ (k : ℕ) where
  abbrev holding : Span → Bool
  holding x = inside x.lo x.hi k

  none_before : (m : List Span) → EndsBefore (suc k) m → filtered holding m ≡ []
  unfolding filtered
  none_before [] e = refl
  none_before (x ∷ xs) e = rw (in_no x.lo x.hi k (omega arith)) (none_before xs e.1)

  none_after : (b : ℕ) (m : List Span) → k < b → Ordered b m → filtered holding m ≡ []
  unfolding filtered
  none_after b [] h o = refl
  none_after b (x ∷ xs) h o = rw (in_no x.lo x.hi k (omega arith)) (none_after x.hi xs (omega arith) o.2)

  first_here : (x : Span) (xs : List Span) → x.lo ≤ k → k < x.hi → filtered holding (x ∷ xs) ≡ x ∷ filtered holding xs
  unfolding filtered
  first_here x xs h i = rw (in_yes x.lo x.hi k (omega arith))

  module _ (ls : List Span) (ends : EndsBefore (suc k) ls) where
    skipped : (rest : List Span) → filtered holding (ls ++ rest) ≡ filtered holding rest
    skipped rest = filtered_app holding ls rest ∙ rw (none_before ls ends)

    get_none : (rest : List Span) → Ordered (suc k) rest → map_get_key_value k (ls ++ rest) ≡ next (filtered holding (ls ++ rest))
    unfolding map_get_key_value up_to
    get_none rest o = rw (
      up_to_app k ls rest,
      up_to_none k rest o,
      append-nil (up_to k ls),
      none_before (taken 1 (reversed (up_to k ls))) (ends_taken (suc k) 1 _ (ends_reversed (suc k) _ (ends_filtered (suc k) _ ls ends))),
      skipped rest,
      none_after (suc k) rest (omega arith) o,
    )

    get_first : (x : Span) (xs : List Span) → x.lo ≤ k → k < x.hi → Ordered x.hi xs
        → map_get_key_value k (ls ++ x ∷ xs) ≡ next (filtered holding (ls ++ x ∷ xs))
    unfolding map_get_key_value taken
    get_first x xs h i o = rw (
      up_to_app k ls (x ∷ xs),
      up_to_here k x xs h,
      up_to_none k xs (ordered_from xs i o),
      reversed_one (up_to k ls) x,
      first_here x [] h i,
      skipped (x ∷ xs),
      first_here x xs h i,
    )

    get_parted : (b : ℕ) (rest : List Span) → Reaches (suc k) rest → Ordered b rest → map_get_key_value k (ls ++ rest) ≡ next (filtered holding (ls ++ rest))
    get_parted b [] r o = get_none [] tt
    get_parted b (x ∷ xs) r o = elim (dec_lt k x.lo) [
      | yes p ↦ get_none (x ∷ xs) (p, o.1, o.2)
      | no p ↦ get_first x xs (omega arith) r o.2
    ]

  -- GET_KEY_VALUE: the first entry that holds the key
  pub get_key_value_is : (m : List Span) → Ordered 0 m → map_get_key_value k m ≡ next (filtered (holds k) m)
  unfolding holds
  get_key_value_is m o =
      let p = part (suc k) m in
      rw p.whole (get_parted p.left p.ends 0 p.right p.reaches (ordered_right 0 p.left p.right (rw p.whole at o)))

  at_first : (m : List Span) → if_let (next (filtered holding m)) (λ x. some x.label) none ≡ at m k
  unfolding filtered at
  at_first [] = refl
  at_first (x ∷ xs) = go (holding x) (at_first xs)
    where
      go : (t : Bool) → if_let (next (filtered holding xs)) (λ y. some y.label) none ≡ at xs k
          → if_let (next (cond t (x ∷ filtered holding xs) (filtered holding xs))) (λ y. some y.label) none ≡ cond t (some x.label) (at xs k)
      go true e = refl
      go false e = e

  -- GET
  pub get_is : (m : List Span) → Ordered 0 m → map_get k m ≡ at m k
  unfolding map_get holds
  get_is m o = rw (get_key_value_is m o) (at_first m)

  -- CONTAINS_KEY
  pub contains_is : (m : List Span) → Ordered 0 m → map_contains_key k m ≡ any (holds k) m
  unfolding map_contains_key
  contains_is m o = rw (get_key_value_is m o) (some_any (holds k) m)

  pub inclusive_get_key_value_is : (top : ℕ) (m : List Span) → Ordered 0 m → Upto top m → inclusive_get_key_value k m ≡ map_get_key_value k m
  unfolding inclusive_get_key_value map_get_key_value inclusive_range_contains inside
  inclusive_get_key_value_is top m o u =
      let near = taken 1 (reversed (up_to k m)) in
      rw (filtered_same top (λ x. leb x.lo k && ltb k x.hi) (λ x. leb x.lo k && leb k (x.hi - 1)) near
      (λ x f t. rw (leb_ltb k (x.hi - 1) x.hi (omega arith))) (sound_near top 1 k m (sound top 0 m o u)))

  pub inclusive_get_is : (top : ℕ) (m : List Span) → Ordered 0 m → Upto top m → inclusive_get k m ≡ at m k
  unfolding inclusive_get map_get
  inclusive_get_is top m o u = rw (inclusive_get_key_value_is top m o u) (get_is m o)

  pub inclusive_contains_is : (top : ℕ) (m : List Span) → Ordered 0 m → Upto top m → inclusive_contains_key k m ≡ any (holds k) m
  unfolding inclusive_contains_key map_contains_key
  inclusive_contains_is top m o u = rw (inclusive_get_key_value_is top m o u) (contains_is m o)

-- OVERLAPPING: starts ascend, so what is given until the first None is all that starts before the end
starts_late : (hi b : ℕ) (m : List Span) → hi ≤ b → Ordered b m → filtered (λ x. ltb x.lo hi) m ≡ []
unfolding filtered
starts_late hi b [] h o = refl
starts_late hi b (x ∷ xs) h o = rw (le-ltb x.lo hi (omega arith)) (starts_late hi x.hi xs (omega arith) o.2)

taken_is : (hi b : ℕ) (m : List Span) → Ordered b m → taken_while (λ x. ltb x.lo hi) m ≡ filtered (λ x. ltb x.lo hi) m
unfolding taken_while filtered
taken_is hi b [] o = refl
taken_is hi b (x ∷ xs) o = elim (dec_lt x.lo hi) [
  | yes p ↦ rw (lt-ltb x.lo hi p, taken_is hi x.hi xs o.2)
  | no p ↦ rw (le-ltb x.lo hi (omega arith)) (sym (starts_late hi x.hi xs (omega arith) o.2))
]

module _ (lo hi : ℕ) (m : List Span) (o : Ordered 0 m) where
  -- whether the query is empty or not
  pub overlapping_is : map_overlapping lo hi m ≡ filtered (spans_overlap (span lo hi 0)) m
  unfolding map_overlapping ending_past spans_overlap
  overlapping_is = taken_is hi 0 _ (unfold ending_past in ordered_past lo 0 m o) ∙ filtered_and (λ x. ltb x.lo hi) (λ x. ltb lo x.hi) m

  -- from the back it gives the same, the last first
  pub overlapping_back_is : map_overlapping_back lo hi m ≡ reversed (map_overlapping lo hi m)
  unfolding map_overlapping_back map_overlapping
  overlapping_back_is = filtered_reversed (λ x. ltb x.lo hi) (ending_past lo m) ∙ rw (taken_is hi 0 (ending_past lo m) (ordered_past lo 0 m o))

  -- OVERLAPS
  pub overlaps_is : map_overlaps lo hi m ≡ any (spans_overlap (span lo hi 0)) m
  unfolding map_overlaps
  overlaps_is = rw overlapping_is (some_any (spans_overlap (span lo hi 0)) m)

module _ (lo last top : ℕ) (m : List Span) (o : Ordered 0 m) (u : Upto top m) where
  by_last : ◌≡◌ {A = Span → Bool} (λ x. leb x.lo last) (λ x. ltb x.lo (suc last))
  by_last = fun_ext (λ x. leb_ltb x.lo last (suc last) refl)

  pub inclusive_overlapping_is : inclusive_overlapping lo last m ≡ map_overlapping lo (suc last) m
  unfolding inclusive_overlapping map_overlapping
  inclusive_overlapping_is = rw (ending_same top lo m (sound top 0 m o u)) (ap (λ (p : Span → Bool). taken_while p (ending_past lo m)) by_last)

  pub inclusive_overlapping_back_is : inclusive_overlapping_back lo last m ≡ map_overlapping_back lo (suc last) m
  unfolding inclusive_overlapping_back map_overlapping_back
  inclusive_overlapping_back_is =
      rw (ending_same top lo m (sound top 0 m o u)) (ap (λ (p : Span → Bool). filtered p (reversed (ending_past lo m))) by_last)

  pub inclusive_overlaps_is : inclusive_overlaps lo last m ≡ map_overlaps lo (suc last) m
  unfolding inclusive_overlaps map_overlaps
  inclusive_overlaps_is = rw inclusive_overlapping_is

-- ORDER: number by number
cmp_first : (a b : ℕ) (o : Ordering) → cmp_then (number_cmp a b) o ≡ cond (ltb a b) Ordering.lt (cond (ltb b a) Ordering.gt o)
unfolding number_cmp
cmp_first a b o = go (ltb a b) (ltb b a)
  where
    go : (s t : Bool) → cmp_then (cond s Ordering.lt (cond t Ordering.gt Ordering.eq)) o ≡ cond s Ordering.lt (cond t Ordering.gt o)
    go true t = refl
    go false true = refl
    go false false = refl

pub cmp_is : (a b : List Span) → map_cmp a b ≡ span_order a b
unfolding map_cmp span_order flat lex
cmp_is [] [] = refl
cmp_is [] (y ∷ ys) = refl
cmp_is (x ∷ xs) [] = refl
cmp_is (x ∷ xs) (y ∷ ys) = cmp_first x.lo y.lo _ ∙ rw (
  cmp_first x.hi y.hi (cmp_then (number_cmp x.label y.label) (map_cmp xs ys)),
  cmp_first x.label y.label (map_cmp xs ys),
) (rw (cmp_is xs ys))

-- EQUALITY
equal_first : (a b : ℕ) (o : Ordering) → is_equal (cond (ltb a b) Ordering.lt (cond (ltb b a) Ordering.gt o)) ≡ (eqb a b && is_equal o)
equal_first a b o = elim (dec_lt a b) [
  | yes p ↦ rw (lt-ltb a b p, ne_eqb a b (omega arith))
  | no p ↦ elim (dec_lt b a) [
    | yes q ↦ rw (le-ltb a b (omega arith), lt-ltb b a q, ne_eqb a b (omega arith))
    | no q ↦ rw (le-ltb a b (omega arith), le-ltb b a (omega arith), eq-eqb a b (omega arith))
  ]
]

and_assoc : (r s t : Bool) → ((r && s) && t) ≡ (r && (s && t))
and_assoc true s t = refl
and_assoc false s t = refl

pub eq_is : (a b : List Span) → map_eq a b ≡ is_equal (span_order a b)
unfolding map_eq span_order flat lex
eq_is [] [] = refl
eq_is [] (y ∷ ys) = refl
eq_is (x ∷ xs) [] = refl
eq_is (x ∷ xs) (y ∷ ys) =
    let ih = eq_is xs ys in
    and_assoc (eqb x.lo y.lo) (eqb x.hi y.hi) (eqb x.label y.label && map_eq xs ys) ∙ rw (
      equal_first x.lo y.lo _,
      equal_first x.hi y.hi _,
      equal_first x.label y.label _,
      ih,
    )

-- no range of a map is empty, so an order by last keys is that by ends
cmp_last : (a b : ℕ) → 0 < a → 0 < b → number_cmp (a - 1) (b - 1) ≡ number_cmp a b
unfolding number_cmp
cmp_last a b h i = rw (ltb_same (a - 1) (b - 1) a b (omega arith) (omega arith), ltb_same (b - 1) (a - 1) b a (omega arith) (omega arith))

eqb_last : (a b : ℕ) → 0 < a → 0 < b → eqb (a - 1) (b - 1) ≡ eqb a b
eqb_last a b h i = elim (ℕ_discrete a b) [
  | yes p ↦ rw (eq-eqb a b p, eq-eqb (a - 1) (b - 1) (omega arith))
  | no p ↦ rw (ne_eqb a b p, ne_eqb (a - 1) (b - 1) (λ e. p (omega arith)))
]

pub inclusive_cmp_is : (top : ℕ) (a b : List Span) → Sound top a → Sound top b → inclusive_cmp a b ≡ map_cmp a b
unfolding inclusive_cmp map_cmp
inclusive_cmp_is top [] [] s t = refl
inclusive_cmp_is top [] (y ∷ ys) s t = refl
inclusive_cmp_is top (x ∷ xs) [] s t = refl
inclusive_cmp_is top (x ∷ xs) (y ∷ ys) s t = rw (cmp_last x.hi y.hi (omega arith) (omega arith), inclusive_cmp_is top xs ys s.2 t.2)

pub inclusive_eq_is : (top : ℕ) (a b : List Span) → Sound top a → Sound top b → inclusive_eq a b ≡ map_eq a b
unfolding inclusive_eq map_eq
inclusive_eq_is top [] [] s t = refl
inclusive_eq_is top [] (y ∷ ys) s t = refl
inclusive_eq_is top (x ∷ xs) [] s t = refl
inclusive_eq_is top (x ∷ xs) (y ∷ ys) s t = rw (eqb_last x.hi y.hi (omega arith) (omega arith), inclusive_eq_is top xs ys s.2 t.2)
