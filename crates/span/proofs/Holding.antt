-- What the parts of a list hold, and that they are ordered and tidy.
use Prim.Native.Nat.{ℕ, ◌≤◌, ◌<◌, min, max}
use native.Mathlib.Omega.{arith}
use native.Mathlib.Decide.{dec_lt}
use mathlib.Core.Path.{◌≡◌, refl, sym, ◌∙◌}
use mathlib.Core.List.{List, [], ◌∷◌, ◌++◌}
use mathlib.Core.Bool.{Bool, true, false, cond}
use mathlib.Core.Option.{Option, some, none}
use Rattle.span.specs.Span.{Span, span, inside, at, Ordered, Upto, or_else, Joins, Apart, Separate, Tidy, keep, before, after, push, joined}
use Rattle.span.proofs.Tests.{Within, lt_cases, in_yes, in_no, in_same, joins_cases}

pub at_in : (x : Span) (xs : List Span) (k : ℕ) → Within x.lo x.hi k → at (x ∷ xs) k ≡ some x.label
unfolding at
at_in x xs k w = rw (in_yes x.lo x.hi k w)

pub at_out : (x : Span) (xs : List Span) (k : ℕ) → (Within x.lo x.hi k → ⊥) → at (x ∷ xs) k ≡ at xs k
unfolding at
at_out x xs k n = rw (in_no x.lo x.hi k n)

-- ordered from b on, a list is so from any earlier instant on, and holds nothing before b
pub ordered_from : {b c : ℕ} (m : List Span) → c ≤ b → Ordered b m → Ordered c m
ordered_from [] h o = tt
ordered_from (x ∷ xs) h o = (omega arith, o.1, o.2)

pub at_below : {b : ℕ} (m : List Span) (k : ℕ) → Ordered b m → k < b → at m k ≡ none
unfolding at
at_below [] k o h = refl
at_below (x ∷ xs) k o h = at_out x xs k (omega arith) ∙ at_below xs k o.2 (omega arith)

-- what the rest of an ordered list holds, the list holds
pub at_behind : (x : Span) (xs : List Span) (k : ℕ) {v : ℕ} → Ordered x.hi xs → at xs k ≡ some v → at (x ∷ xs) k ≡ some v
at_behind x xs k o e = elim (dec_lt k x.hi) [ yes p ↦ cc (at_below xs k o p) | no p ↦ at_out x xs k (omega arith) ∙ e ]

-- keep: an empty span holds nothing
pub at_keep : (x : Span) (xs : List Span) (k : ℕ) → at (keep x xs) k ≡ at (x ∷ xs) k
unfolding keep
at_keep x xs k = lt_cases x.lo x.hi (λ m. at m k ≡ at (x ∷ xs) k) (λ p. refl) (λ p. sym (at_out x xs k (omega arith)))

ordered_keep : (b c : ℕ) (x : Span) (xs : List Span) → b ≤ x.lo → b ≤ c → x.hi ≤ c → Ordered c xs → Ordered b (keep x xs)
unfolding keep
ordered_keep b c x xs h i j o = lt_cases x.lo x.hi (Ordered b) (λ p. (h, p, ordered_from xs j o)) (λ p. ordered_from xs i o)

pub upto_keep : (c : ℕ) (x : Span) (xs : List Span) → x.hi ≤ c → Upto c xs → Upto c (keep x xs)
unfolding keep
upto_keep c x xs h u = lt_cases x.lo x.hi (Upto c) (λ p. (h, u)) (λ p. u)

-- what lies before s: all that is held before s, and nothing from s on
pub at_before : (s : ℕ) (m : List Span) (k : ℕ) → k < s → at (before s m) k ≡ at m k
unfolding at before
at_before s [] k h = refl
at_before s (x ∷ xs) k h =
    let cut : inside x.lo (min x.hi s) k ≡ inside x.lo x.hi k = in_same (omega arith) (omega arith) in
    rw (at_keep, cut, at_before s xs k h)

pub ordered_before : (b s : ℕ) (m : List Span) → Ordered b m → Ordered b (before s m)
unfolding before
ordered_before b s [] o = tt
ordered_before b s (x ∷ xs) o = ordered_keep b x.hi _ _ o.0 (omega arith) (omega arith) (ordered_before x.hi s xs o.2)

pub upto_before : (s : ℕ) (m : List Span) → Upto s (before s m)
unfolding before
upto_before s [] = tt
upto_before s (x ∷ xs) = upto_keep s _ _ (omega arith) (upto_before s xs)

-- what lies from e on: all that is held from e on, and nothing before e
pub at_after : (e : ℕ) (m : List Span) (k : ℕ) → e ≤ k → at (after e m) k ≡ at m k
unfolding at after
at_after e [] k h = refl
at_after e (x ∷ xs) k h =
    let cut : inside (max x.lo e) x.hi k ≡ inside x.lo x.hi k = in_same (omega arith) (omega arith) in
    rw (at_keep, cut, at_after e xs k h)

pub ordered_after : (b e : ℕ) (m : List Span) → Ordered b m → Ordered (max b e) (after e m)
unfolding after
ordered_after b e [] o = tt
ordered_after b e (x ∷ xs) o = ordered_keep (max b e) (max x.hi e) _ _ (omega arith) (omega arith) (omega arith) (ordered_after x.hi e xs o.2)

pub upto_after : (c e : ℕ) (m : List Span) → Upto c m → Upto c (after e m)
unfolding after
upto_after c e [] u = tt
upto_after c e (x ∷ xs) u = upto_keep c _ _ u.0 (upto_after c e xs u.1)

-- a list that ends by c holds nothing from c on
pub at_upto : (c : ℕ) (m : List Span) (k : ℕ) → Upto c m → c ≤ k → at m k ≡ none
unfolding at
at_upto c [] k u h = refl
at_upto c (x ∷ xs) k u h = at_out x xs k (omega arith) ∙ at_upto c xs k u.1 h

-- one list and then another
cond_or : (t : Bool) (v : ℕ) (a b : Option ℕ) → cond t (some v) (or_else a b) ≡ or_else (cond t (some v) a) b
cond_or true v a b = refl
cond_or false v a b = refl

pub at_app : (xs ys : List Span) (k : ℕ) → at (xs ++ ys) k ≡ or_else (at xs k) (at ys k)
unfolding at
at_app [] ys k = refl
at_app (x ∷ xs) ys k = rw (at_app xs ys k) (cond_or (inside x.lo x.hi k) x.label (at xs k) (at ys k))

pub or_none : (a : Option ℕ) → or_else a none ≡ a
or_none none = refl
or_none (some v) = refl

pub ordered_app : (b c : ℕ) (xs ys : List Span) → b ≤ c → Ordered b xs → Upto c xs → Ordered c ys → Ordered b (xs ++ ys)
ordered_app b c [] ys h o u p = ordered_from ys h p
ordered_app b c (x ∷ xs) ys h o u p = (o.0, o.1, ordered_app x.hi c xs ys u.0 o.2 u.1 p)

pub ordered_left : (b : ℕ) (xs ys : List Span) → Ordered b (xs ++ ys) → Ordered b xs
ordered_left b [] ys o = tt
ordered_left b (x ∷ xs) ys o = (o.0, o.1, ordered_left x.hi xs ys o.2)

pub ordered_right : (b : ℕ) (xs ys : List Span) → Ordered b (xs ++ ys) → Ordered b ys
ordered_right b [] ys o = o
ordered_right b (x ∷ xs) ys o = ordered_from ys (omega arith) (ordered_right x.hi xs ys o.2)

-- two spans that join hold what the one made of them holds
at_joint : (x y : Span) (ys : List Span) (k : ℕ) → Joins x y → x.lo < x.hi → y.lo < y.hi → at (span x.lo y.hi x.label ∷ ys) k ≡ at (x ∷ y ∷ ys) k
unfolding at
at_joint x y ys k j h i = elim (dec_lt k x.hi) [
  | yes p ↦
      let first : inside x.lo y.hi k ≡ inside x.lo x.hi k = in_same (omega arith) (omega arith) in
      rw (first, at_out y ys k (omega arith))
  | no p ↦
      let second : inside x.lo y.hi k ≡ inside y.lo y.hi k = in_same (omega arith) (omega arith) in
      rw (second, at_out x (y ∷ ys) k (omega arith), j.alike)
]

-- push: nothing that is held changes, what is ordered stays ordered, and what is separate separate
at_push : (x : Span) (ys : List Span) (k : ℕ) → x.lo < x.hi → Ordered x.hi ys → at (push x ys) k ≡ at (x ∷ ys) k
unfolding push
at_push x [] k h o = refl
at_push x (y ∷ ys) k h o = joins_cases x y (λ m. at m k ≡ at (x ∷ y ∷ ys) k) (λ j. at_joint x y ys k j h o.1) (λ n. refl)

ordered_push : (b : ℕ) (x : Span) (ys : List Span) → b ≤ x.lo → x.lo < x.hi → Ordered x.hi ys → Ordered b (push x ys)
unfolding push
ordered_push b x [] h i o = (h, i, tt)
ordered_push b x (y ∷ ys) h i o = joins_cases x y (Ordered b) (λ j. (h, omega arith, o.2)) (λ n. (h, i, o))

apart_alike : (x y : Span) (ys : List Span) → x.hi ≡ y.hi → x.label ≡ y.label → Apart x ys → Apart y ys
apart_alike x y [] h l a = tt
apart_alike x y (z ∷ zs) h l a = λ j. a (omega arith)

separate_push : (x : Span) (ys : List Span) → Separate ys → Separate (push x ys)
unfolding push
separate_push x [] s = (tt, tt)
separate_push x (y ∷ ys) s = joins_cases x y Separate (λ j. (apart_alike y (span x.lo y.hi x.label) ys refl (omega arith) s.0, s.1)) (λ n. (n, s))

-- joined, an ordered list is tidy and holds what it held
pub ordered_joined : (b : ℕ) (m : List Span) → Ordered b m → Ordered b (joined m)
unfolding joined
ordered_joined b [] o = tt
ordered_joined b (x ∷ xs) o = ordered_push b x (joined xs) o.0 o.1 (ordered_joined x.hi xs o.2)

separate_joined : (m : List Span) → Separate (joined m)
unfolding joined
separate_joined [] = tt
separate_joined (x ∷ xs) = separate_push x (joined xs) (separate_joined xs)

pub tidy_joined : (b : ℕ) (m : List Span) → Ordered b m → Tidy b (joined m)
tidy_joined b m o = record { ordered = ordered_joined b m o; separate = separate_joined m }

pub at_joined : (b : ℕ) (m : List Span) (k : ℕ) → Ordered b m → at (joined m) k ≡ at m k
unfolding joined at
at_joined b [] k o = refl
at_joined b (x ∷ xs) k o = at_push x (joined xs) k o.1 (ordered_joined x.hi xs o.2) ∙ rw (at_joined x.hi xs k o.2)
