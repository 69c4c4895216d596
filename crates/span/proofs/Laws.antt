-- The laws: what an edit and a history leave, and that a tidy list is the only one that holds what it holds.
use Prim.Native.Nat.{ℕ, ◌≤◌, ◌<◌}
use native.Mathlib.Omega.{arith}
use native.Mathlib.Decide.{dec_lt}
use mathlib.Core.Path.{◌≡◌, refl, ap, sym, ◌∙◌}
use mathlib.Core.List.{List, [], ◌∷◌, ◌++◌}
use mathlib.Core.Bool.{cond}
use mathlib.Core.Option.{Option, some, none}
use Rattle.span.specs.Span.{Span, span, inside, at, or_else, Ordered, Apart, Tidy, Means, before, after, joined, piece, given, inserted, removed, Edit, history, last, Real}
use Rattle.span.proofs.Tests.{Within, below, among, beyond, place, in_yes, in_no, in_cases}
use Rattle.span.proofs.Holding.{at_in, at_out, at_below, at_upto, at_app, at_before, at_after, at_joined, or_none, ordered_from, ordered_app, ordered_before, ordered_after, upto_before, tidy_joined}

ordered_piece : (lo hi : ℕ) (new : Option ℕ) (rest : List Span) → lo < hi → Ordered hi rest → Ordered lo (piece lo hi new rest)
ordered_piece lo hi none rest h o = ordered_from rest (omega arith) o
ordered_piece lo hi (some v) rest h o = (omega arith, h, o)

at_piece : (lo hi : ℕ) (new : Option ℕ) (rest : List Span) (k : ℕ) → Within lo hi k → at (piece lo hi new rest) k ≡ or_else new (at rest k)
at_piece lo hi none rest k w = refl
at_piece lo hi (some v) rest k w = at_in (span lo hi v) rest k w

at_no_piece : (lo hi : ℕ) (new : Option ℕ) (rest : List Span) (k : ℕ) → (Within lo hi k → ⊥) → at (piece lo hi new rest) k ≡ at rest k
at_no_piece lo hi none rest k n = refl
at_no_piece lo hi (some v) rest k n = at_out (span lo hi v) rest k n

-- an edit of an ordered list leaves a tidy one, which holds what the edit gives inside its range, and outside what was held
module _ (lo hi : ℕ) (new : Option ℕ) (m : List Span) (real : lo < hi) (o : Ordered 0 m) where
  past : Ordered hi (after hi m)
  past = ordered_from (after hi m) (omega arith) (ordered_after 0 hi m o)

  laid : Ordered 0 (before lo m ++ piece lo hi new (after hi m))
  laid = ordered_app 0 lo (before lo m) (piece lo hi new (after hi m)) (omega arith) (ordered_before 0 lo m o) (upto_before lo m) (ordered_piece lo hi new (after hi m) real past)

  pub tidy_given : Tidy 0 (given lo hi new m)
  unfolding given
  tidy_given = tidy_joined 0 _ laid

  pub at_given : (k : ℕ) → at (given lo hi new m) k ≡ cond (inside lo hi k) new (at m k)
  unfolding given
  at_given k = rw (at_joined 0 _ k laid, at_app) (elim (place lo hi k) [
    | below p ↦ rw (in_no lo hi k (omega arith), at_before lo m k p, at_no_piece lo hi new (after hi m) k (omega arith), at_below (after hi m) k past (omega arith), or_none)
    | among p q ↦ rw (in_yes lo hi k (omega arith), at_upto lo (before lo m) k (upto_before lo m) p, at_piece lo hi new (after hi m) k (omega arith), at_below (after hi m) k past q, or_none)
    | beyond p q ↦ rw (in_no lo hi k (omega arith), at_upto lo (before lo m) k (upto_before lo m) p, at_no_piece lo hi new (after hi m) k (omega arith), at_after hi m k q)
  ])

pub never : {v : ℕ} → none ≡ some v → ⊥
never e = let z : ◌≡◌ {A = ℕ} 0 1 = cc in omega arith

-- where a span of a tidy list ends, the list does not go on with its label
pub at_end : (x : Span) (xs : List Span) → Ordered x.hi xs → Apart x xs → at xs x.hi ≡ some x.label → ⊥
unfolding at
at_end x [] o a e = never e
at_end x (y ∷ ys) o a e = elim (dec_lt x.hi y.lo) [
  | yes p ↦ never (sym (at_below {b = y.lo} (y ∷ ys) x.hi (omega arith, o.1, o.2) p) ∙ e)
  | no p ↦ let l : x.label ≡ y.label = cc (at_in y ys x.hi (omega arith)) in a (omega arith)
]

pub tail : {b : ℕ} {x : Span} {xs : List Span} → Tidy b (x ∷ xs) → Tidy x.hi xs
tail t = record { ordered = t.ordered.2; separate = t.separate.1 }

-- of two tidy lists that hold the same the second begins no later; where the two begin alike its first span ends no sooner; and past that they hold the same
module _ {b c : ℕ} (x y : Span) (xs ys : List Span) (t : Tidy b (x ∷ xs)) (u : Tidy c (y ∷ ys)) (same : (k : ℕ) → at (x ∷ xs) k ≡ at (y ∷ ys) k) where
  begins : y.lo ≤ x.lo
  begins = elim (dec_lt x.lo y.lo) [
    | yes p ↦ absurd (never (sym (at_below {b = y.lo} (y ∷ ys) x.lo (omega arith, u.ordered.1, u.ordered.2) p) ∙ sym (same x.lo) ∙ at_in x xs x.lo (omega arith)))
    | no p ↦ omega arith
  ]

  ends : x.lo ≡ y.lo → x.label ≡ y.label → x.hi ≤ y.hi
  ends lo label = elim (dec_lt y.hi x.hi) [
    | yes p ↦ absurd (at_end y ys u.ordered.2 u.separate.0 (sym (at_out y ys y.hi (omega arith)) ∙ sym (same y.hi) ∙ at_in x xs y.hi (omega arith) ∙ ap some label))
    | no p ↦ omega arith
  ]

  past_first : x.hi ≡ y.hi → (k : ℕ) → at xs k ≡ at ys k
  past_first hi k = elim (dec_lt k x.hi) [
    | yes p ↦ at_below xs k t.ordered.2 p ∙ sym (at_below ys k u.ordered.2 (omega arith))
    | no p ↦ sym (at_out x xs k (omega arith)) ∙ same k ∙ at_out y ys k (omega arith)
  ]

-- THE ONLY ONE: tidy lists that hold the same at every instant are equal
pub the_only_one : {b c : ℕ} (xs ys : List Span) → Tidy b xs → Tidy c ys → ((k : ℕ) → at xs k ≡ at ys k) → xs ≡ ys
unfolding at
the_only_one [] [] t u e = refl
the_only_one [] (y ∷ ys) t u e = absurd (never (e y.lo ∙ at_in y ys y.lo (omega arith)))
the_only_one (x ∷ xs) [] t u e = absurd (never (sym (e x.lo) ∙ at_in x xs x.lo (omega arith)))
the_only_one (x ∷ xs) (y ∷ ys) t u e =
    let f : (k : ℕ) → at (y ∷ ys) k ≡ at (x ∷ xs) k = λ k. sym (e k) in
    let lo : x.lo ≡ y.lo = omega (arith, begins x y xs ys t u e, begins y x ys xs u t f) in
    let label : x.label ≡ y.label = cc (e x.lo, at_in x xs x.lo (omega arith), at_in y ys x.lo (omega arith)) in
    let hi : x.hi ≡ y.hi = omega (arith, ends x y xs ys t u e lo label, ends y x ys xs u t f (sym lo) (sym label)) in
    let rest : xs ≡ ys = the_only_one xs ys (tail t) (tail u) (past_first x y xs ys t u e hi) in
    λ i. span (lo i) (hi i) (label i) ∷ rest i

pub only : {f : ℕ → Option ℕ} {xs ys : List Span} → Means xs f → Means ys f → xs ≡ ys
only {xs = xs} {ys = ys} a b = the_only_one xs ys a.tidy b.tidy (λ k. a.holds k ∙ sym (b.holds k))

-- the meaning may be said in other words
pub reworded : {f g : ℕ → Option ℕ} {m : List Span} → Means m f → ((k : ℕ) → f k ≡ g k) → Means m g
reworded a e = record { tidy = a.tidy; holds = λ k. a.holds k ∙ e k }

pub nothing : Means [] (λ k. none)
unfolding at
nothing = record { tidy = record { ordered = tt; separate = tt }; holds = λ k. refl }

pub itself : {m : List Span} → Tidy 0 m → Means m (at m)
itself t = record { tidy = t; holds = λ k. refl }

-- spans that join made one: the only tidy list that holds what the ordered list holds
pub joined_means : (m : List Span) → Ordered 0 m → Means (joined m) (at m)
joined_means m o = record { tidy = tidy_joined 0 m o; holds = λ k. at_joined 0 m k o }

-- AN EDIT: inside its range what it gives, outside what was held
pub given_means : {f : ℕ → Option ℕ} {m : List Span} (lo hi : ℕ) (new : Option ℕ) → lo < hi → Means m f → Means (given lo hi new m) (λ k. cond (inside lo hi k) new (f k))
given_means {f} {m} lo hi new h a = record { tidy = tidy_given lo hi new m h a.tidy.ordered; holds = λ k. at_given lo hi new m h a.tidy.ordered k ∙ rw (a.holds k) }

pub inserted_means : {f : ℕ → Option ℕ} {m : List Span} (lo hi v : ℕ) → lo < hi → Means m f → Means (inserted lo hi v m) (λ k. cond (inside lo hi k) (some v) (f k))
inserted_means lo hi v h a = given_means lo hi (some v) h a

pub removed_means : {f : ℕ → Option ℕ} {m : List Span} (lo hi : ℕ) → lo < hi → Means m f → Means (removed lo hi m) (λ k. cond (inside lo hi k) none (f k))
removed_means lo hi h a = given_means lo hi none h a

module _ (lo hi : ℕ) (new : Option ℕ) (m : List Span) (real : lo < hi) (t : Tidy 0 m) where
  pub given_inside : (k : ℕ) → Within lo hi k → at (given lo hi new m) k ≡ new
  given_inside k w = at_given lo hi new m real t.ordered k ∙ rw (in_yes lo hi k w)

  pub given_outside : (k : ℕ) → (Within lo hi k → ⊥) → at (given lo hi new m) k ≡ at m k
  given_outside k n = at_given lo hi new m real t.ordered k ∙ rw (in_no lo hi k n)

  -- to give a range what it holds already changes nothing
  pub given_held : ((k : ℕ) → Within lo hi k → at m k ≡ new) → given lo hi new m ≡ m
  given_held held = only (given_means lo hi new real (itself t))
      (reworded (itself t) (λ k. in_cases lo hi k (λ v. at m k ≡ v) (λ w. held k w) (λ n. refl)))

-- A HISTORY: each instant holds the last label given it, or none if removed since
pub history_means : {f : ℕ → Option ℕ} {m : List Span} (es : List Edit) → Real es → Means m f → Means (history es m) (λ k. last es k (f k))
unfolding history last
history_means [] r a = a
history_means {f = f} {m = m} (e ∷ es) r a =
    history_means {f = λ x. cond (inside e.lo e.hi x) e.new (f x)} {m = given e.lo e.hi e.new m} es r.1 (given_means e.lo e.hi e.new r.0 a)

-- histories from nothing that agree at every instant leave equal lists
pub same_history : (es fs : List Edit) → Real es → Real fs → ((k : ℕ) → last es k none ≡ last fs k none) → history es [] ≡ history fs []
same_history es fs r s e = only (reworded (history_means es r nothing) e) (history_means fs s nothing)
