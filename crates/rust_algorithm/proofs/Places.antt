-- Places of a list: the entry at a place, the first that passes a test, and the part that overlaps a query, as `outcomes` tells it and as the Rust gives it.
use Prim.Native.Nat.{ℕ, zero, suc, ◌-◌, ◌≤◌, ◌<◌}
use native.Mathlib.Omega.{arith}
use native.Mathlib.Decide.{dec_lt}
use mathlib.Core.Path.{◌≡◌, refl, ap, sym, ◌∙◌}
use mathlib.Core.Bool.{Bool, true, false, cond}
use mathlib.Core.List.{List, [], ◌∷◌, ◌++◌}
use mathlib.Core.Option.{some, none}
use lib.Dec.{eqb}
use lib.ListN.{length, get_or, take, drop}
use borrow.Author.Tests.{lt-ltb, le-ltb, eqb-true}
use Rattle.span.specs.Span.{Span, span, Ordered}
use Rattle.span.specs.Operations.{spans_overlap}
use Rattle.span.proofs.Tests.{cases}
use Rattle.outcomes.specs.Outcomes.{first_place, how_many, part_of}
use Rattle.outcomes.specs.Answered.{Located, places_from}
use Rattle.rust_algorithm.specs.Btree.{filtered, reversed, next, next_back, nth}
use Rattle.rust_algorithm.specs.Equal.{PartGiven}

pub nth_here : (i : ℕ) (xs : List Span) (d : Span) → i < length xs → nth i xs ≡ some (get_or xs i d)
unfolding nth
nth_here i [] d h = absurd (omega arith)
nth_here zero (x ∷ xs) d h = refl
nth_here (suc i) (x ∷ xs) d h = nth_here i xs d (omega arith)

pub nth_past : (i : ℕ) (xs : List Span) → length xs ≤ i → nth i xs ≡ none
unfolding nth
nth_past i [] h = refl
nth_past zero (x ∷ xs) h = absurd (omega arith)
nth_past (suc i) (x ∷ xs) h = nth_past i xs (omega arith)

pub nth_zero : (xs : List Span) → nth 0 xs ≡ next xs
unfolding nth
nth_zero [] = refl
nth_zero (x ∷ xs) = refl

next_snoc : (xs ys : List Span) (y : Span) → next ((xs ++ y ∷ []) ++ ys) ≡ next (xs ++ y ∷ [])
next_snoc [] ys y = refl
next_snoc (x ∷ xs) ys y = refl

pub nth_last : (xs : List Span) → nth (length xs - 1) xs ≡ next_back xs
unfolding nth next_back reversed
nth_last [] = refl
nth_last (x ∷ []) = refl
nth_last (x ∷ y ∷ ys) =
    let e : suc (suc (length ys)) - 1 ≡ suc (length ys) = omega arith in
    let f : suc (length ys) - 1 ≡ length ys = omega arith in
    rw e (sym (ap (λ (n : ℕ). nth n (y ∷ ys)) f) ∙ nth_last (y ∷ ys) ∙ sym (next_snoc (reversed ys) (x ∷ []) y))

-- the first that passes a test
pub nth_first : (p : Span → Bool) (xs : List Span) → next (filtered p xs) ≡ nth (first_place p xs) xs
unfolding filtered nth first_place
nth_first p [] = refl
nth_first p (x ∷ xs) = go (p x) (nth_first p xs)
  where
    go : (t : Bool) → next (filtered p xs) ≡ nth (first_place p xs) xs
        → next (cond t (x ∷ filtered p xs) (filtered p xs)) ≡ nth (cond t 0 (suc (first_place p xs))) (x ∷ xs)
    go true e = unfold nth in refl
    go false e = unfold nth in e

-- THE PART that overlaps a query: the places that pass are consecutive
module _ (lo hi : ℕ) where
  abbrev meets : Span → Bool
  meets x = spans_overlap (span lo hi 0) x

  meets_yes : (x : Span) → lo < x.hi → x.lo < hi → meets x ≡ true
  unfolding spans_overlap
  meets_yes x h i = rw (lt-ltb lo x.hi h, lt-ltb x.lo hi i)

  meets_past : (x : Span) → lo < x.hi → hi ≤ x.lo → meets x ≡ false
  unfolding spans_overlap
  meets_past x h i = rw (lt-ltb lo x.hi h, le-ltb x.lo hi i)

  meets_before : (x : Span) → x.hi ≤ lo → meets x ≡ false
  unfolding spans_overlap
  meets_before x h = rw (le-ltb lo x.hi h)

  -- past the end of the query nothing passes
  none_past : (b : ℕ) (xs : List Span) → hi ≤ b → lo ≤ b → Ordered b xs → (how_many meets xs ≡ 0) × (filtered meets xs ≡ [])
  unfolding how_many filtered
  none_past b [] h i o = (refl, refl)
  none_past b (x ∷ xs) h i o =
      let (c, f) = none_past x.hi xs (omega arith) (omega arith) o.2 in
      (rw (meets_past x (omega arith) (omega arith)) c, rw (meets_past x (omega arith) (omega arith)) f)

  -- from its start on those that pass come first
  prefix : (b : ℕ) (xs : List Span) → lo ≤ b → Ordered b xs → take (how_many meets xs) xs ≡ filtered meets xs
  unfolding how_many filtered
  prefix b [] h o = refl
  prefix b (x ∷ xs) h o = elim (dec_lt x.lo hi) [
    | yes p ↦ rw (meets_yes x (omega arith) p) (ap (x ∷◌) (prefix x.hi xs (omega arith) o.2))
    | no p ↦
        let (c, f) = none_past x.hi xs (omega arith) (omega arith) o.2 in
        rw (meets_past x (omega arith) (omega arith), c, f)
  ]

  part_is : (b : ℕ) (xs : List Span) → Ordered b xs → take (how_many meets xs) (drop (first_place meets xs) xs) ≡ filtered meets xs
  unfolding how_many filtered first_place
  part_is b [] o = refl
  part_is b (x ∷ xs) o = elim (dec_lt lo x.hi) [
    | yes p ↦ elim (dec_lt x.lo hi) [
      | yes q ↦ rw (meets_yes x p q) (ap (x ∷◌) (prefix x.hi xs (omega arith) o.2))
      | no q ↦
          let (c, f) = none_past x.hi xs (omega arith) (omega arith) o.2 in
          rw (meets_past x p (omega arith), c, f)
    ]
    | no p ↦ rw (meets_before x (omega arith)) (part_is x.hi xs o.2)
  ]

  pub part_gives : (b : ℕ) (xs : List Span) → lo < hi → Ordered b xs → PartGiven xs (part_of meets xs) (filtered meets xs)
  unfolding part_of
  part_gives b xs h o = cases (eqb (how_many meets xs) 0) (λ (p : Located). PartGiven xs p (filtered meets xs))
      (λ z. record { part = places_from 0 0; told = refl; same = none_there_span (eqb-true (how_many meets xs) 0 z) })
      (λ z. record { part = places_from (first_place meets xs) (how_many meets xs); told = refl; same = part_is b xs o })
    where
      none_there_span : how_many meets xs ≡ 0 → [] ≡ filtered meets xs
      none_there_span z = sym (ap (λ (n : ℕ). take n (drop (first_place meets xs) xs)) z) ∙ part_is b xs o
