-- What the loop of the comparison knows: the places passed were equal, so the rest decides.
use Prim.Native.Nat.{ℕ, suc, ◌+◌, ◌≤◌, ◌<◌, min, Ordering}
use native.Mathlib.Omega.{arith}
use mathlib.Core.Path.{◌≡◌, refl, ap, ◌∙◌}
use mathlib.Core.Bool.{Bool, true, false, cond}
use mathlib.Core.List.{List, [], ◌∷◌}
use native.Mathlib.Decide.{dec_lt}
use borrow.Author.Tests.{lt-ltb, le-ltb, eq-eqb, ne_eqb}
use lib.Dec.{ltb}
use lib.ListN.{length, get_or, drop, drop_of_length-le}
use lib.Seq.{drop-cons}
use lib.IntN.{pos}
use Rattle.span.specs.Span.{Span}
use Rattle.span.specs.Operations.{flat, lex, span_order}
use Rattle.key.specs.Range.{Kind, half_open, span_of}
use Rattle.outcomes.specs.Stored.{ranges}
use Rattle.outcomes.specs.declared.Stored.{Stored}
use Rattle.outcomes.specs.Outcomes.{order_sound, compared_by}
use Rattle.outcomes.proofs.Formed.{Shaped, length_ranges, get_or_ranges}
use Rattle.std.specs.Prelude.{Ok}
use Rattle.std.specs.Ordering.{nat_cmp, is_ne}
use Rattle.std.specs.declared.cmp.Ordering.{Ordering as Answer}
use Rattle.std.specs.declared.cmp.Ordering.TheVariants.{Less, Equal, Greater}

-- the first answer, unless it is that both are equal
abbrev pub or_else : Ordering → Ordering → Ordering
or_else Ordering.lt o = Ordering.lt
or_else Ordering.eq o = o
or_else Ordering.gt o = Ordering.gt

abbrev pick : Bool → Bool → Ordering → Ordering
pick t u z = cond t Ordering.lt (cond u Ordering.gt z)

pick_else : (t u : Bool) (z o : Ordering) → pick t u (or_else z o) ≡ or_else (pick t u z) o
pick_else true u z o = refl
pick_else false true z o = refl
pick_else false false z o = refl

-- the first spans decide; where they do not, the others do
pub order_cons : (x y : Span) (xs ys : List Span) → span_order (x ∷ xs) (y ∷ ys) ≡ or_else (span_order (x ∷ []) (y ∷ [])) (span_order xs ys)
unfolding span_order flat lex
order_cons x y xs ys =
    let los = ltb x.lo y.lo in
    let los' = ltb y.lo x.lo in
    let his = ltb x.hi y.hi in
    let his' = ltb y.hi x.hi in
    let labels = ltb x.label y.label in
    let labels' = ltb y.label x.label in
    let o = lex (flat xs) (flat ys) in
    ap (λ (z : Ordering). pick los los' (pick his his' z)) (pick_else labels labels' Ordering.eq o)
    ∙ ap (pick los los') (pick_else his his' (pick labels labels' Ordering.eq) o)
    ∙ pick_else los los' (pick his his' (pick labels labels' Ordering.eq)) o

-- the range at place k
abbrev pub place_of : Kind → Stored → ℕ → Span
place_of kind m k = span_of kind (get_or m.starts k (pos 0)) (get_or m.ends k (pos 0)) (get_or m.values k 0)

-- what the comparison requires of each map
abbrev pub Columns : Stored → Type 0
Columns m = (m.count ≤ length m.starts) × (length m.ends ≡ length m.starts) × (length m.values ≡ length m.starts)

module _ (m : Stored) (h : Columns m) (k : ℕ) where
  abbrev n : ℕ
  n = length m.starts

  abbrev xs : List Span
  xs = ranges half_open m

  shape : Shaped n m
  shape = record { starts = refl; ends = h.1; values = h.2 }

  some_left : k < m.count → drop k xs ≡ place_of half_open m k ∷ drop (k + 1) xs
  some_left l =
      let e : suc k ≡ k + 1 = omega arith in
      drop-cons xs k (place_of half_open m k) (omega (arith, length_ranges half_open n m shape h.0))
      ∙ (λ i. get_or_ranges half_open n m shape h.0 k (place_of half_open m k) l i ∷ drop (e i) xs)

  none_left : m.count ≤ k → drop k xs ≡ []
  none_left l = let e : length xs ≤ k = omega (arith, length_ranges half_open n m shape h.0) in drop_of_length-le xs e

-- how the places from k on compare
abbrev pub onward : Stored → Stored → ℕ → Ordering
onward a b k = span_order (drop k (ranges half_open a)) (drop k (ranges half_open b))

pub all_left : (a b : Stored) → order_sound half_open a b ≡ onward a b 0
unfolding order_sound
all_left a b = refl

-- all places before k were equal
module _ (a b : Stored) (h : Columns a) (h' : Columns b) (k : ℕ) (so_far : order_sound half_open a b ≡ onward a b k) where
  first_left : k < a.count → b.count ≤ k → Ok Greater ≡ compared_by (order_sound half_open a b)
  unfolding span_order flat lex
  first_left l l' = rw (so_far, some_left a h k l, none_left b h' k l')

  second_left : a.count ≤ k → k < b.count → Ok Less ≡ compared_by (order_sound half_open a b)
  unfolding span_order flat lex
  second_left l l' = rw (so_far, none_left a h k l, some_left b h' k l')

  neither_left : a.count ≤ k → b.count ≤ k → Ok Equal ≡ compared_by (order_sound half_open a b)
  unfolding span_order flat lex
  neither_left l l' = rw (so_far, none_left a h k l, none_left b h' k l')

  -- one of the maps has no place k, so their counts decide
  pub by_counts : k ≡ min a.count b.count → Ok (nat_cmp a.count b.count) ≡ compared_by (order_sound half_open a b)
  by_counts e = elim (dec_lt a.count b.count) [
    | yes l ↦ rw (lt-ltb a.count b.count l) (second_left (omega arith) (omega arith))
    | no l ↦ elim (dec_lt b.count a.count) [
      | yes l' ↦ rw (le-ltb a.count b.count (omega arith), ne_eqb a.count b.count (λ e. omega arith)) (first_left (omega arith) (omega arith))
      | no l' ↦ rw (le-ltb a.count b.count (omega arith), eq-eqb a.count b.count (omega arith)) (neither_left (omega arith) (omega arith))
    ]
  ]

  -- of the places at k the code learns r
  module _ (l : k < a.count) (l' : k < b.count) where
    abbrev here : Ordering
    here = span_order (place_of half_open a k ∷ []) (place_of half_open b k ∷ [])

    both_left : order_sound half_open a b ≡ or_else here (onward a b (k + 1))
    both_left = so_far ∙ rw (some_left a h k l, some_left b h' k l') (order_cons _ _ _ _)

    pub passed : (r : Answer) → Ok r ≡ compared_by here → is_ne r ≡ false → order_sound half_open a b ≡ onward a b (k + 1)
    passed r e f = both_left ∙ go here r e f
      where
        go : (o : Ordering) (r : Answer) → Ok r ≡ compared_by o → is_ne r ≡ false → or_else o (onward a b (k + 1)) ≡ onward a b (k + 1)
        go Ordering.eq r e f = refl
        go Ordering.lt Equal e f = cc
        go Ordering.gt Equal e f = cc
        go o Less e f = cc
        go o Greater e f = cc

    pub decided : (r : Answer) → Ok r ≡ compared_by here → is_ne r ≡ true → Ok r ≡ compared_by (order_sound half_open a b)
    decided r e f = rw both_left (go here r e f)
      where
        go : (o : Ordering) (r : Answer) → Ok r ≡ compared_by o → is_ne r ≡ true → Ok r ≡ compared_by (or_else o (onward a b (k + 1)))
        go Ordering.lt r e f = e
        go Ordering.gt r e f = e
        go Ordering.eq Less e f = cc
        go Ordering.eq Greater e f = cc
        go Ordering.eq Equal e f = cc
