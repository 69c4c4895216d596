-- The list that stands for the BTreeMap: what its operations do where the entry in question is the first of a part of it.
use Prim.Native.Nat.{ℕ, suc, ◌≤◌, ◌<◌}
use native.Mathlib.Omega.{arith}
use native.Mathlib.Decide.{dec_lt}
use mathlib.Core.Path.{◌≡◌, refl}
use mathlib.Core.List.{List, [], ◌∷◌, ◌++◌}
use mathlib.Core.Bool.{cond}
use mathlib.Core.Option.{some, Option, none}
use lib.Dec.{ltb}
use borrow.Author.Tests.{lt-ltb, le-ltb, le-leb, lt-leb, eq-eqb, ne_eqb}
use Rattle.std.proofs.lemmas.List.{append_assoc}
use Rattle.span.specs.Span.{Span, span, Ordered, Upto, keep}
use Rattle.span.proofs.Holding.{ordered_from, ordered_right}
use Rattle.rust_algorithm.specs.Btree.{rust_then, filtered, next, from_to, strictly_between, deleted, entered}
use Rattle.rust_algorithm.specs.Map.{cut_out}

-- all of the list starts before c
abbrev pub Below : ℕ → List Span → Type 0
Below c [] = Unit {0}
Below c (x ∷ xs) = (x.lo < c) × Below c xs

pub below_more : {c d : ℕ} (m : List Span) → c ≤ d → Below c m → Below d m
below_more [] h b = tt
below_more (x ∷ xs) h b = (omega arith, below_more xs h b.1)

pub below_upto : (b c : ℕ) (m : List Span) → Ordered b m → Upto c m → Below c m
below_upto b c [] o u = tt
below_upto b c (x ∷ xs) o u = (omega arith, below_upto x.hi c xs o.2 u.1)

pub below_first : (b : ℕ) (m : List Span) (x : Span) (xs : List Span) → Ordered b (m ++ x ∷ xs) → Below x.lo m
below_first b [] x xs o = tt
below_first b (y ∷ ys) x xs o = (omega (arith, (ordered_right y.hi ys (x ∷ xs) o.2).0), below_first y.hi ys x xs o.2)

pub below_snoc : {c : ℕ} (m : List Span) (x : Span) → x.lo < c → Below c m → Below c (m ++ x ∷ [])
below_snoc [] x h b = (h, tt)
below_snoc (y ∷ ys) x h b = (b.0, below_snoc ys x h b.1)

-- range((Included(a), Included(b))).next()
pub query_skip : (a b : ℕ) (ls rest : List Span) → Below a ls → from_to a b (ls ++ rest) ≡ from_to a b rest
unfolding from_to filtered
query_skip a b [] rest h = refl
query_skip a b (x ∷ xs) rest h = rw (lt-leb a x.lo h.0) (query_skip a b xs rest h.1)

pub query_none : (a b c : ℕ) (rest : List Span) → a ≤ b → b < c → Ordered c rest → from_to a b rest ≡ []
unfolding from_to filtered
query_none a b c [] h i o = refl
query_none a b c (x ∷ xs) h i o = rw (le-leb a x.lo (omega arith), lt-leb x.lo b (omega arith)) (query_none a b x.hi xs h (omega arith) o.2)

pub query_here : (a b : ℕ) (x : Span) (xs : List Span) → a ≤ x.lo → x.lo ≤ b → next (from_to a b (x ∷ xs)) ≡ some x
unfolding from_to filtered
query_here a b x xs h i = rw (le-leb a x.lo h, le-leb x.lo b i)

-- range((Excluded(a), Excluded(b))).next()
pub between_skip : (a b : ℕ) (ls rest : List Span) → Below (suc a) ls → strictly_between a b (ls ++ rest) ≡ strictly_between a b rest
unfolding strictly_between filtered
between_skip a b [] rest h = refl
between_skip a b (x ∷ xs) rest h = rw (le-ltb a x.lo (omega arith)) (between_skip a b xs rest h.1)

pub between_none : (a b c : ℕ) (rest : List Span) → a < b → b ≤ c → Ordered c rest → strictly_between a b rest ≡ []
unfolding strictly_between filtered
between_none a b c [] h i o = refl
between_none a b c (x ∷ xs) h i o = rw (lt-ltb a x.lo (omega arith), le-ltb x.lo b (omega arith)) (between_none a b x.hi xs h (omega arith) o.2)

pub between_here : (a b : ℕ) (x : Span) (xs : List Span) → a < x.lo → x.lo < b → next (strictly_between a b (x ∷ xs)) ≡ some x
unfolding strictly_between filtered
between_here a b x xs h i = rw (lt-ltb a x.lo h, lt-ltb x.lo b i)

-- BTreeMap::remove, BTreeMap::insert
pub deleted_here : (ls : List Span) (x : Span) (xs : List Span) → Below x.lo ls → deleted x.lo (ls ++ x ∷ xs) ≡ ls ++ xs
unfolding deleted
deleted_here [] x xs b = rw (eq-eqb x.lo x.lo refl)
deleted_here (y ∷ ys) x xs b = rw (ne_eqb y.lo x.lo (omega arith), deleted_here ys x xs b.1)

pub entered_here : (ls : List Span) (x : Span) (rest : List Span) → Below x.lo ls → Ordered (suc x.lo) rest → entered x (ls ++ rest) ≡ ls ++ x ∷ rest
unfolding entered
entered_here [] x [] b o = refl
entered_here [] x (z ∷ zs) b o = rw (lt-ltb x.lo z.lo o.0)
entered_here (y ∷ ys) x rest b o = rw (le-ltb x.lo y.lo (omega arith), ne_eqb x.lo y.lo (omega arith), entered_here ys x rest b.1 o)

-- delete, and add back what is left over on either side
module _ (x : Span) (s e : ℕ) (xs : List Span) (full : x.lo < x.hi) (real : s < e) (from : x.lo ≤ e) (rest : Ordered x.hi xs) where
  put_right : (ls : List Span) → Below e ls
      → cond (ltb e x.hi) (entered (span e x.hi x.label) (ls ++ xs)) (ls ++ xs) ≡ ls ++ keep (span e x.hi x.label) xs
  unfolding keep
  put_right ls b = elim (dec_lt e x.hi) [
    | yes p ↦ rw (lt-ltb e x.hi p) (entered_here ls (span e x.hi x.label) xs b (ordered_from xs p rest))
    | no p ↦ rw (le-ltb e x.hi (omega arith))
  ]

  pub cut_clear : (ls : List Span) → Below x.lo ls → s ≤ x.lo → cut_out x s e (ls ++ x ∷ xs) ≡ ls ++ keep (span e x.hi x.label) xs
  unfolding cut_out
  cut_clear ls b h = rw (deleted_here ls x xs b, le-ltb x.lo s h) (put_right ls (below_more ls from b))

  pub cut_left : (ls : List Span) → Below x.lo ls → x.lo < s
      → cut_out x s e (ls ++ x ∷ xs) ≡ (ls ++ span x.lo s x.label ∷ []) ++ keep (span e x.hi x.label) xs
  unfolding cut_out
  cut_left ls b h =
      let new = span x.lo s x.label in
      rw (deleted_here ls x xs b, lt-ltb x.lo s h, entered_here ls new xs b (ordered_from xs full rest), ← append_assoc ls (new ∷ []) xs)
      (put_right (ls ++ new ∷ []) (below_snoc ls new (omega arith) (below_more ls from b)))

-- what comes after what may panic is the same where it is the same of each answer
pub after_both : {A B : Type 0} (a : Option A) (f g : A → Option B) → ((x : A) → f x ≡ g x) → rust_then a f ≡ rust_then a g
after_both none f g e = refl
after_both (some x) f g e = e x
