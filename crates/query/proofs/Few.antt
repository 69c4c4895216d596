-- HOW MANY RANGES a result has at most: one more than the two maps have together.
-- A range of the result begins and ends where a range of a map does, or the window; no two of these places are one, and there are two for each range.
use Prim.Native.Nat.{ℕ, zero, suc, ◌+◌, ◌*◌, ◌≤◌, ◌<◌}
use native.Mathlib.Omega.{arith}
use native.Mathlib.Decide.{ℕ_discrete}
use mathlib.Core.Path.{◌≡◌, refl, sym, ap, ◌∙◌}
use mathlib.Core.Logic.{◌⊎◌, inl, inr, ⊎_elim}
use mathlib.Core.Bool.{◌&&◌, cond}
use mathlib.Core.List.{List, [], ◌∷◌, ◌++◌}
use mathlib.Core.Option.{Option, some}
use lib.ListN.{length, length-append}
use Rattle.span.specs.Span.{Span, inside, at, Tidy}
use Rattle.span.proofs.Tests.{in_same}
use Rattle.span.proofs.Holding.{at_in, at_out, at_below}
use Rattle.span.proofs.Laws.{never}
use Rattle.span.proofs.Walks.{Spaced, spaced_from, spaced_ordered}
use Rattle.query_text.specs.Grammar.{Query}
use Rattle.query_text.specs.Meaning.{truth}
use Rattle.query.specs.Result.{result, is_true, marked}
use Rattle.query.proofs.Result.{result_means}
use Rattle.query.proofs.Instants.{result_maximal}

-- p is one of a list
abbrev In : ℕ → List ℕ → Type 0
In p [] = ⊥
In p (x ∷ xs) = (p ≡ x) ⊎ In p xs

abbrev AllIn : List ℕ → List ℕ → Type 0
AllIn [] ys = Unit {0}
AllIn (x ∷ xs) ys = In x ys × AllIn xs ys

-- from b on, each greater than the one before
abbrev Rising : ℕ → List ℕ → Type 0
Rising b [] = Unit {0}
Rising b (x ∷ xs) = (b ≤ x) × Rising (suc x) xs

-- the list with p taken out: one shorter, and all else is there
record Without (p : ℕ) (xs : List ℕ) : Type 0 where
  rest : List ℕ
  shorter : length xs ≡ suc (length rest)
  keeps : (q : ℕ) → (q ≡ p → ⊥) → In q xs → In q rest

taking_out : (p : ℕ) (xs : List ℕ) → In p xs → Without p xs
taking_out p [] i = absurd i
taking_out p (x ∷ xs) (inl e) = record { rest = xs; shorter = refl; keeps = λ q n i. ⊎_elim (λ f. absurd (n (f ∙ sym e))) (λ j. j) i }
taking_out p (x ∷ xs) (inr i) = let r = taking_out p xs i in
    record { rest = x ∷ r.rest; shorter = ap suc r.shorter; keeps = λ q n j. ⊎_elim inl (λ h. inr (r.keeps q n h)) j }

all_keep : (p b : ℕ) (xs : List ℕ) {ys : List ℕ} (w : Without p ys) → p < b → Rising b xs → AllIn xs ys → AllIn xs w.rest
all_keep p b [] w h r a = tt
all_keep p b (x ∷ xs) w h r a = (w.keeps x (omega arith) a.0, all_keep p (suc x) xs w (omega arith) r.1 a.1)

-- a rising list of members is no longer than the list
no_longer : (b : ℕ) (xs ys : List ℕ) → Rising b xs → AllIn xs ys → length xs ≤ length ys
no_longer b [] ys r a = omega arith
no_longer b (x ∷ xs) ys r a =
    let w = taking_out x ys a.0 in
    let ih = no_longer (suc x) xs w.rest r.1 (all_keep x (suc x) xs w (omega arith) r.1 a.1) in
    omega (arith, w.shorter)

-- where the spans of a list begin and end
unfoldable edges : List Span → List ℕ
edges [] = []
edges (x ∷ xs) = x.lo ∷ x.hi ∷ edges xs

length_edges : (m : List Span) → length (edges m) ≡ 2 * length m
unfolding edges
length_edges [] = refl
length_edges (x ∷ xs) = omega (arith, length_edges xs)

rising_edges : (b : ℕ) (m : List Span) → Spaced b m → Rising b (edges m)
unfolding edges
rising_edges b [] s = tt
rising_edges b (x ∷ xs) s = (s.0, (s.1, rising_edges (suc x.hi) xs s.3))

in_left : (p : ℕ) (xs ys : List ℕ) → In p xs → In p (xs ++ ys)
in_left p [] ys i = absurd i
in_left p (x ∷ xs) ys i = ⊎_elim inl (λ j. inr (in_left p xs ys j)) i

in_right : (p : ℕ) (xs ys : List ℕ) → In p ys → In p (xs ++ ys)
in_right p [] ys i = i
in_right p (x ∷ xs) ys i = inr (in_right p xs ys i)

-- what is held changes only where a span begins or ends
inside_steady : (lo hi k : ℕ) → (suc k ≡ lo → ⊥) → (suc k ≡ hi → ⊥) → inside lo hi k ≡ inside lo hi (suc k)
inside_steady lo hi k f g = in_same (omega arith) (omega arith)

one_steady : (x : Span) (xs : List Span) (k : ℕ)
    → inside x.lo x.hi k ≡ inside x.lo x.hi (suc k) → at xs k ≡ at xs (suc k) → at (x ∷ xs) k ≡ at (x ∷ xs) (suc k)
unfolding at
one_steady x xs k s e = λ i. cond (s i) (some x.label) (e i)

at_steady : (m : List Span) (k : ℕ) → In (suc k) (edges m) ⊎ (at m k ≡ at m (suc k))
unfolding edges at
at_steady [] k = inr refl
at_steady (x ∷ xs) k = let ih = at_steady xs k in elim (ℕ_discrete (suc k) x.lo) [
  | yes p ↦ inl (inl p)
  | no p ↦ elim (ℕ_discrete (suc k) x.hi) [
    | yes q ↦ inl (inr (inl q))
    | no q ↦ ⊎_elim (λ i. inl (inr (inr i))) (λ e. inr (one_steady x xs k (inside_steady x.lo x.hi k p q) e)) ih
  ]
]

-- f changes at p
abbrev Turns : (ℕ → Option ℕ) → ℕ → Type 0
Turns f p = (k : ℕ) → suc k ≡ p → f k ≡ f (suc k) → ⊥

abbrev AllTurns : (ℕ → Option ℕ) → List ℕ → Type 0
AllTurns f [] = Unit {0}
AllTurns f (p ∷ ps) = Turns f p × AllTurns f ps

-- a set changes wherever a span begins or ends
turns : (b : ℕ) (m : List Span) (f : ℕ → Option ℕ) → Spaced b m → ((k : ℕ) → b ≤ suc k → f k ≡ at m k) → AllTurns f (edges m)
unfolding edges
turns b [] f s h = tt
turns b (x ∷ xs) f s h =
    let o = spaced_ordered (suc x.hi) xs s.3 in
    let begins : Turns f x.lo = λ k e g.
    never (sym (at_below {b = x.lo} (x ∷ xs) k (omega arith, s.1, spaced_ordered x.hi xs (spaced_from xs (omega arith) s.3)) (omega arith))
    ∙ sym (h k (omega arith)) ∙ g ∙ h (suc k) (omega arith) ∙ at_in x xs (suc k) (omega arith)) in
    let ends : Turns f x.hi = λ k e g.
    never (sym (at_below {b = suc x.hi} xs (suc k) o (omega arith)) ∙ sym (at_out x xs (suc k) (omega arith)) ∙ sym (h (suc k) (omega arith)) ∙ sym g
    ∙ h k (omega arith) ∙ at_in x xs k (omega arith)) in
    (begins, (ends, turns (suc x.hi) xs f s.3 (λ k g. h k (omega arith) ∙ at_out x xs k (omega arith))))

module _ (lo hi : ℕ) (a b : List Span) (real : lo < hi) (ta : Tidy 0 a) (tb : Tidy 0 b) (q : Query) where
  -- the places at which the result can change; 0 stands for the first instant, before which there is none
  turning : List ℕ
  turning = 0 ∷ lo ∷ hi ∷ (edges a ++ edges b)

  -- what it holds
  held : ℕ → Option ℕ
  held k = marked (is_true lo hi a b q k)

  -- it changes there only
  turn_in : (p : ℕ) → Turns held p → In p turning
  unfolding is_true turning held
  turn_in zero t = inl refl
  turn_in (suc k) t = elim (ℕ_discrete (suc k) lo) [
    | yes p ↦ inr (inl p)
    | no p ↦ elim (ℕ_discrete (suc k) hi) [
      | yes r ↦ inr (inr (inl r))
      | no r ↦ ⊎_elim (λ i. inr (inr (inr (in_left (suc k) (edges a) (edges b) i)))) (λ x.
          ⊎_elim (λ i. inr (inr (inr (in_right (suc k) (edges a) (edges b) i)))) (λ y.
          let w = inside_steady lo hi k p r in
          absurd (t k refl (λ i. marked (w i && truth q (x i) (y i))))) (at_steady b k)) (at_steady a k)
    ]
  ]

  all_in : (ps : List ℕ) → AllTurns held ps → AllIn ps turning
  all_in [] t = tt
  all_in (p ∷ ps) t = (turn_in p t.0, all_in ps t.1)

  pub query_few : length (result lo hi a b q) ≤ length a + length b + 1
  unfolding turning held
  query_few =
      let m = result_means lo hi a b real ta tb q in
      let r = result lo hi a b q in
      let s = result_maximal lo hi a b real ta tb q in
      let n = no_longer 0 (edges r) turning (rising_edges 0 r s) (all_in (edges r) (turns 0 r held s (λ k h. sym (m.holds k)))) in
      omega (arith, length_edges r, length-append (edges a) (edges b), length_edges a, length_edges b)
