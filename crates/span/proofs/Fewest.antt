-- A tidy list has the fewest spans of any list of disjoint spans that holds the same, and any other of that length, once sorted, is that list.
use Prim.Native.Nat.{ℕ, suc, ◌≤◌, ◌<◌}
use native.Mathlib.Omega.{arith}
use native.Mathlib.Decide.{dec_lt}
use mathlib.Core.Path.{◌≡◌, refl, ap, sym, ◌∙◌}
use mathlib.Core.Logic.{◌⊎◌, inl, inr, ⊎_elim}
use mathlib.Core.List.{List, [], ◌∷◌}
use mathlib.Core.Bool.{false}
use lib.ListN.{length}
use Rattle.span.specs.Span.{Span, span, inside, at, Ordered, Tidy, push, joined}
use Rattle.span.specs.Operations.{Clear, AllClear, Disjoint, sorted_into, sorted}
use Rattle.span.proofs.Tests.{lt_cases, joins_cases, in_no}
use Rattle.span.proofs.Laws.{only, itself, reworded, joined_means}

length_placed : (x : Span) (m : List Span) → length (sorted_into x m) ≡ suc (length m)
unfolding sorted_into
length_placed x [] = refl
length_placed x (y ∷ ys) = let ih = length_placed x ys in
    lt_cases x.lo y.lo (λ (m : List Span). length m ≡ suc (suc (length ys))) (λ p. refl) (λ p. ap suc ih)

clear_placed : (x y : Span) (m : List Span) → Clear x y → AllClear x m → AllClear x (sorted_into y m)
unfolding sorted_into
clear_placed x y [] c a = (c, tt)
clear_placed x y (z ∷ zs) c a = let ih = clear_placed x y zs c a.1 in
    lt_cases y.lo z.lo (AllClear x) (λ p. (c, a)) (λ p. (a.0, ih))

ordered_placed : (b : ℕ) (x : Span) (m : List Span) → b ≤ x.lo → x.lo < x.hi → AllClear x m → Ordered b m → Ordered b (sorted_into x m)
unfolding sorted_into
ordered_placed b x [] h i c o = (h, i, tt)
ordered_placed b x (y ∷ ys) h i c o = lt_cases x.lo y.lo (Ordered b)
    (λ p. (h, i, (⊎_elim (λ q. q) (λ q. omega arith) c.0, o.1, o.2)))
    (λ p. (o.0, o.1, ordered_placed y.hi x ys (⊎_elim (λ q. omega arith) (λ q. q) c.0) i c.1 o.2))

-- of two clear spans one does not hold k, so the two may change places
one_out : (x y : Span) (k : ℕ) → Clear x y → (inside x.lo x.hi k ≡ false) ⊎ (inside y.lo y.hi k ≡ false)
one_out x y k c = elim (dec_lt k x.hi) [
  | yes p ↦ ⊎_elim (λ q. inr (in_no y.lo y.hi k (omega arith))) (λ q. elim (dec_lt k y.hi) [
    | yes r ↦ inl (in_no x.lo x.hi k (omega arith))
    | no r ↦ inr (in_no y.lo y.hi k (omega arith))
  ]) c
  | no p ↦ inl (in_no x.lo x.hi k (omega arith))
]

at_swap : (x y : Span) (m : List Span) (k : ℕ) → Clear x y → at (x ∷ y ∷ m) k ≡ at (y ∷ x ∷ m) k
unfolding at
at_swap x y m k c = ⊎_elim (λ e. rw e) (λ e. rw e) (one_out x y k c)

at_placed : (x : Span) (m : List Span) (k : ℕ) → AllClear x m → at (sorted_into x m) k ≡ at (x ∷ m) k
unfolding sorted_into at
at_placed x [] k c = refl
at_placed x (y ∷ ys) k c = let ih = at_placed x ys k c.1 in
    lt_cases x.lo y.lo (λ m. at m k ≡ at (x ∷ y ∷ ys) k) (λ p. refl) (λ p. rw ih (at_swap y x ys k (⊎_elim inr inl c.0)))

clear_sorted : (x : Span) (m : List Span) → AllClear x m → AllClear x (sorted m)
unfolding sorted
clear_sorted x [] c = tt
clear_sorted x (y ∷ ys) c = clear_placed x y (sorted ys) c.0 (clear_sorted x ys c.1)

-- sorted, a list of disjoint spans is ordered, as long as it was, and holds what it held
pub ordered_sorted : (m : List Span) → Disjoint m → Ordered 0 (sorted m)
unfolding sorted
ordered_sorted [] d = tt
ordered_sorted (x ∷ xs) d = ordered_placed 0 x (sorted xs) (omega arith) d.0 (clear_sorted x xs d.1) (ordered_sorted xs d.2)

pub length_sorted : (m : List Span) → length (sorted m) ≡ length m
unfolding sorted
length_sorted [] = refl
length_sorted (x ∷ xs) = length_placed x (sorted xs) ∙ rw (length_sorted xs)

pub at_sorted : (m : List Span) (k : ℕ) → Disjoint m → at (sorted m) k ≡ at m k
unfolding sorted at
at_sorted [] k d = refl
at_sorted (x ∷ xs) k d = at_placed x (sorted xs) k (clear_sorted x xs d.1) ∙ rw (at_sorted xs k d.2)

length_push : (x : Span) (ys : List Span) → length (push x ys) ≤ suc (length ys)
unfolding push
length_push x [] = omega arith
length_push x (y ∷ ys) = joins_cases x y {u = span x.lo y.hi x.label ∷ ys} {v = x ∷ y ∷ ys} (λ m. length m ≤ suc (suc (length ys))) (λ j. omega arith) (λ n. omega arith)

-- pushed with no join, nothing else is done
push_same : (x : Span) (ys : List Span) → suc (length ys) ≤ length (push x ys) → push x ys ≡ x ∷ ys
unfolding push
push_same x [] = λ h. refl
push_same x (y ∷ ys) = joins_cases x y {u = span x.lo y.hi x.label ∷ ys} (λ m. suc (suc (length ys)) ≤ length m → m ≡ x ∷ y ∷ ys) (λ j h. absurd (omega arith)) (λ n h. refl)

length_joined : (m : List Span) → length (joined m) ≤ length m
unfolding joined
length_joined [] = omega arith
length_joined (x ∷ xs) = omega (arith, length_push x (joined xs), length_joined xs)

joined_same : (m : List Span) → length m ≤ length (joined m) → joined m ≡ m
unfolding joined
joined_same [] h = refl
joined_same (x ∷ xs) h =
    push_same x (joined xs) (omega (arith, length_joined xs)) ∙ rw (joined_same xs (omega (arith, length_push x (joined xs))))

module _ (t m : List Span) (tidy : Tidy 0 t) (disjoint : Disjoint m) (same : (k : ℕ) → at m k ≡ at t k) where
  joined_sorted : joined (sorted m) ≡ t
  joined_sorted = only (reworded (joined_means (sorted m) (ordered_sorted m disjoint)) (λ k. at_sorted m k disjoint ∙ same k)) (itself tidy)

  pub fewest : length t ≤ length m
  fewest = rw (← joined_sorted) (omega (arith, length_joined (sorted m), length_sorted m))

  pub fewest_only : length m ≡ length t → sorted m ≡ t
  fewest_only e = sym (joined_same (sorted m) (omega (arith, length_sorted m, ap length joined_sorted))) ∙ joined_sorted
