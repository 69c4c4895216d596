-- For proofs about code: a tidy list taken apart and put together, by places and by splicing.
use Prim.Native.Nat.{ℕ, zero, suc, ◌≤◌, ◌<◌, min, max}
use native.Mathlib.Omega.{arith}
use native.Mathlib.Decide.{dec_lt}
use mathlib.Core.Path.{◌≡◌, refl, ap, sym, subst, ◌∙◌}
use mathlib.Core.List.{List, [], ◌∷◌, ◌++◌}
use mathlib.Core.Bool.{cond}
use mathlib.Core.Option.{Option, some, none}
use borrow.Author.Tests.{lt-ltb, le-ltb}
use lib.ListN.{length, get_or}
use Rattle.span.specs.Span.{Span, span, inside, at, or_else, Ordered, Upto, Joins, Separate, Tidy, keep, before, after, push, joined, piece, given}
use Rattle.span.proofs.Tests.{Within, in_yes, in_no, in_cases, joins_yes, joins_no}
use Rattle.span.proofs.Holding.{at_in, at_behind, at_app, at_below, at_upto, or_none, ordered_from, ordered_left, ordered_right}
use Rattle.span.proofs.Laws.{the_only_one, tidy_given, at_given}

-- y may come after x in a tidy list
pub record Follows (x y : Span) : Type 0 where
  pub past : x.hi ≤ y.lo
  pub apart : Joins x y → ⊥

-- y may come after each span of the list
abbrev pub Ahead : List Span → Span → Type 0
Ahead [] y = Unit {0}
Ahead (x ∷ xs) y = Follows x y × Ahead xs y

-- taken apart
separate_left : (xs ys : List Span) → Separate (xs ++ ys) → Separate xs
separate_left [] ys s = tt
separate_left (x ∷ []) ys s = (tt, tt)
separate_left (x ∷ z ∷ zs) ys s = (s.0, separate_left (z ∷ zs) ys s.1)

separate_right : (xs ys : List Span) → Separate (xs ++ ys) → Separate ys
separate_right [] ys s = s
separate_right (x ∷ xs) ys s = separate_right xs ys s.1

pub tidy_left : {b : ℕ} (xs ys : List Span) → Tidy b (xs ++ ys) → Tidy b xs
tidy_left {b} xs ys t = record { ordered = ordered_left b xs ys t.ordered; separate = separate_left xs ys t.separate }

pub tidy_right : {b : ℕ} (xs ys : List Span) → Tidy b (xs ++ ys) → Tidy b ys
tidy_right {b} xs ys t = record { ordered = ordered_right b xs ys t.ordered; separate = separate_right xs ys t.separate }

ahead_of : (b : ℕ) (xs : List Span) (y : Span) (ys : List Span) → Ordered b (xs ++ y ∷ ys) → Separate (xs ++ y ∷ ys) → Ahead xs y
ahead_of b [] y ys o s = tt
ahead_of b (x ∷ []) y ys o s = (record { past = omega arith; apart = s.0 }, tt)
ahead_of b (x ∷ z ∷ zs) y ys o s =
    let past = ordered_right z.hi zs (y ∷ ys) o.2.2 in
    (record { past = omega arith; apart = λ j. omega arith }, ahead_of x.hi (z ∷ zs) y ys o.2 s.1)

pub tidy_ahead : {b : ℕ} (xs : List Span) (y : Span) (ys : List Span) → Tidy b (xs ++ y ∷ ys) → Ahead xs y
tidy_ahead {b} xs y ys t = ahead_of b xs y ys t.ordered t.separate

-- what is ahead of y is ahead of all that begins later; and with y itself, of all that follows y
pub ahead_later : (xs : List Span) (y z : Span) → y.lo < z.lo → Ahead xs y → Ahead xs z
ahead_later [] y z h a = tt
ahead_later (x ∷ xs) y z h a = (record { past = omega arith; apart = λ j. omega arith }, ahead_later xs y z h a.1)

pub ahead_snoc : (xs : List Span) (y z : Span) → y.lo < y.hi → Ahead xs y → Follows y z → Ahead (xs ++ y ∷ []) z
ahead_snoc [] y z h a f = (f, tt)
ahead_snoc (x ∷ xs) y z h a f = (record { past = omega arith; apart = λ j. omega arith }, ahead_snoc xs y z h a.1 f)

-- put together
ordered_glue : (b : ℕ) (xs : List Span) (y : Span) (ys : List Span) → b ≤ y.lo → Ordered b xs → Ahead xs y → Ordered y.lo (y ∷ ys) → Ordered b (xs ++ y ∷ ys)
ordered_glue b [] y ys h o a p = (h, p.1, p.2)
ordered_glue b (x ∷ xs) y ys h o a p = (o.0, o.1, ordered_glue x.hi xs y ys a.0.past o.2 a.1 p)

separate_glue : (xs : List Span) (y : Span) (ys : List Span) → Separate xs → Ahead xs y → Separate (y ∷ ys) → Separate (xs ++ y ∷ ys)
separate_glue [] y ys s a p = p
separate_glue (x ∷ []) y ys s a p = (a.0.apart, p)
separate_glue (x ∷ z ∷ zs) y ys s a p = (s.0, separate_glue (z ∷ zs) y ys s.1 a.1 p)

pub tidy_app : {b c : ℕ} (xs : List Span) (y : Span) (ys : List Span) → b ≤ y.lo → Tidy b xs → Ahead xs y → Tidy c (y ∷ ys) → Tidy b (xs ++ y ∷ ys)
tidy_app {b} xs y ys h t a u = record {
  ordered = ordered_glue b xs y ys h t.ordered a (omega arith, u.ordered.1, u.ordered.2);
  separate = separate_glue xs y ys t.separate a u.separate;
}

-- SPLICE: where the middle of a tidy list is replaced so that the list stays tidy, and the new middle holds what an edit
-- of the old one would, the list is the edited one. What is left of the middle ends by lo, what is right of it starts from hi on
pub splice : (lo hi : ℕ) (new : Option ℕ) (ls ms ns rs : List Span) → lo < hi → Upto lo ls → Ordered hi rs
    → Tidy 0 (ls ++ (ms ++ rs)) → Tidy 0 (ls ++ (ns ++ rs)) → ((k : ℕ) → at ns k ≡ cond (inside lo hi k) new (at ms k))
    → ls ++ (ns ++ rs) ≡ given lo hi new (ls ++ (ms ++ rs))
splice lo hi new ls ms ns rs h l r t u e = the_only_one _ _ u (tidy_given lo hi new _ h t.ordered)
    (λ k. sym (at_given lo hi new _ h t.ordered k ∙ simp at_app
    (in_cases lo hi k (λ v. v ≡ or_else (at ls k) (or_else (at ns k) (at rs k)))
    (λ w. rw (e k, in_yes lo hi k w, at_upto lo ls k l w.from, at_below rs k r w.to, or_none))
    (λ n. rw (e k, in_no lo hi k n)))))

-- so to edit the middle is to edit the list, where that leaves it tidy
pub local : (lo hi : ℕ) (new : Option ℕ) (ls ms rs : List Span) → lo < hi → Upto lo ls → Ordered hi rs
    → Tidy 0 (ls ++ (ms ++ rs)) → Tidy 0 (ls ++ (given lo hi new ms ++ rs)) → ls ++ (given lo hi new ms ++ rs) ≡ given lo hi new (ls ++ (ms ++ rs))
local lo hi new ls ms rs h l r t u = splice lo hi new ls ms (given lo hi new ms) rs h l r t u
    (at_given lo hi new ms h (ordered_left 0 ms rs (ordered_right 0 ls (ms ++ rs) t.ordered)))

-- THE MIDDLE of an edit: where its first span reaches lo and its last one starts by hi, what is left of it is one span at most on either side.
-- So `given lo hi new` of the middle computes to three spans at most, and `at_given` says what it holds
before_none : (s : ℕ) (m : List Span) → Ordered s m → before s m ≡ []
unfolding before keep
before_none s [] o = refl
before_none s (x ∷ xs) o = rw (le-ltb x.lo (min x.hi s) (omega arith)) (before_none s xs (ordered_from xs (omega arith) o.2))

pub before_middle : (lo : ℕ) (x : Span) (xs : List Span) → lo ≤ x.hi → Ordered x.hi xs → before lo (x ∷ xs) ≡ keep (span x.lo lo x.label) []
unfolding before
before_middle lo x xs h o =
    let hi : min x.hi lo ≡ lo = omega arith in
    rw (hi, before_none lo xs (ordered_from xs h o))

after_skip : (e : ℕ) (xs ys : List Span) → Upto e xs → after e (xs ++ ys) ≡ after e ys
unfolding after keep
after_skip e [] ys u = refl
after_skip e (x ∷ xs) ys u = rw (le-ltb (max x.lo e) x.hi (omega arith)) (after_skip e xs ys u.1)

pub after_middle : (hi : ℕ) (ys : List Span) (y : Span) → Upto hi ys → y.lo ≤ hi → after hi (ys ++ y ∷ []) ≡ keep (span hi y.hi y.label) []
unfolding after
after_middle hi ys y u h =
    let lo : max y.lo hi ≡ hi = omega arith in
    after_skip hi ys (y ∷ []) u ∙ rw lo

-- what stands left of a span in an ordered list ends by its start
pub upto_front : (b c : ℕ) (xs : List Span) (y : Span) (ys : List Span) → Ordered b (xs ++ y ∷ ys) → y.lo ≤ c → Upto c xs
upto_front b c [] y ys o h = tt
upto_front b c (x ∷ xs) y ys o h = let right = ordered_right x.hi xs (y ∷ ys) o.2 in (omega arith, upto_front x.hi c xs y ys o.2 h)

pub middle : (lo hi b : ℕ) (new : Option ℕ) (x : Span) (xs ys : List Span) (y : Span) → x ∷ xs ≡ ys ++ y ∷ [] → Ordered b (x ∷ xs) → lo ≤ x.hi → y.lo ≤ hi
    → given lo hi new (x ∷ xs) ≡ joined (keep (span x.lo lo x.label) [] ++ piece lo hi new (keep (span hi y.hi y.label) []))
unfolding given
middle lo hi b new x xs ys y e o h i =
    let upto : Upto hi ys = upto_front b hi ys y [] (subst (Ordered b) e o) i in
    let right : after hi (x ∷ xs) ≡ keep (span hi y.hi y.label) [] = ap (after hi) e ∙ after_middle hi ys y upto i in
    rw (right, before_middle lo x xs h o.2)

-- no middle
pub middle_none : (lo hi : ℕ) (new : Option ℕ) → given lo hi new [] ≡ piece lo hi new []
unfolding given joined before after push
middle_none lo hi none = refl
middle_none lo hi (some v) = refl

-- cut, what is left on the two sides stays apart
pub middle_cut : (a lo hi d p q : ℕ) → lo < hi → joined (keep (span a lo p) [] ++ keep (span hi d q) []) ≡ keep (span a lo p) [] ++ keep (span hi d q) []
unfolding joined keep push
middle_cut a lo hi d p q h =
    let n = joins_no (span a lo p) (span hi d q) (omega arith) in
    elim (dec_lt a lo) [
      | yes i ↦ elim (dec_lt hi d) [ yes j ↦ rw (lt-ltb a lo i, lt-ltb hi d j, n) | no j ↦ rw (lt-ltb a lo i, le-ltb hi d (omega arith)) ]
      | no i ↦ elim (dec_lt hi d) [ yes j ↦ rw (le-ltb a lo (omega arith), lt-ltb hi d j) | no j ↦ rw (le-ltb a lo (omega arith), le-ltb hi d (omega arith)) ]
    ]

-- the new span and what is left of the middle on its right: nothing, or kept, or joined
module _ (lo hi d v q : ℕ) where
  pub right_clear : d ≤ hi → joined (span lo hi v ∷ keep (span hi d q) []) ≡ span lo hi v ∷ []
  unfolding joined keep push
  right_clear h = rw (le-ltb hi d h)

  pub right_kept : hi < d → (v ≡ q → ⊥) → joined (span lo hi v ∷ keep (span hi d q) []) ≡ span lo hi v ∷ span hi d q ∷ []
  unfolding joined keep push
  right_kept h n = rw (lt-ltb hi d h, joins_no (span lo hi v) (span hi d q) (λ j. n j.alike))

  pub right_joined : hi < d → v ≡ q → joined (span lo hi v ∷ keep (span hi d q) []) ≡ span lo d v ∷ []
  unfolding joined keep push
  right_joined h e = rw (lt-ltb hi d h, joins_yes (span lo hi v) (span hi d q) (omega arith))

-- and on its left
pub left_clear : (a lo p : ℕ) (m : List Span) → lo ≤ a → joined (keep (span a lo p) [] ++ m) ≡ joined m
unfolding keep
left_clear a lo p m i = rw (le-ltb a lo i)

module _ {a lo h p v : ℕ} {r : List Span} (m : List Span) where
  pub left_kept : a < lo → (p ≡ v → ⊥) → joined m ≡ span lo h v ∷ r → joined (keep (span a lo p) [] ++ m) ≡ span a lo p ∷ span lo h v ∷ r
  unfolding joined keep push
  left_kept i n e = rw (lt-ltb a lo i, e, joins_no (span a lo p) (span lo h v) (λ j. n j.alike))

  pub left_joined : a < lo → p ≡ v → joined m ≡ span lo h v ∷ r → joined (keep (span a lo p) [] ++ m) ≡ span a h v ∷ r
  unfolding joined keep push
  left_joined i n e = rw (lt-ltb a lo i, e, joins_yes (span a lo p) (span lo h v) (omega arith), n)

-- by places: each span is not empty, and each next one may follow
pub record ByPlaces (d : Span) (m : List Span) : Type 0 where
  pub full : (i : ℕ) → i < length m → (get_or m i d).lo < (get_or m i d).hi
  pub next : (i : ℕ) → suc i < length m → Follows (get_or m i d) (get_or m (suc i) d)

next_places : {d x : Span} {xs : List Span} → ByPlaces d (x ∷ xs) → ByPlaces d xs
next_places p = record { full = λ i h. p.full (suc i) (omega arith); next = λ i h. p.next (suc i) (omega arith) }

ordered_places : (b : ℕ) {d : Span} (m : List Span) → (0 < length m → b ≤ (get_or m 0 d).lo) → ByPlaces d m → Ordered b m
ordered_places b [] s p = tt
ordered_places b (x ∷ xs) s p = (s (omega arith), p.full 0 (omega arith), ordered_places x.hi xs (λ h. (p.next 0 (omega arith)).past) (next_places p))

separate_places : {d : Span} (m : List Span) → ByPlaces d m → Separate m
separate_places [] p = tt
separate_places (x ∷ []) p = (tt, tt)
separate_places (x ∷ y ∷ ys) p = ((p.next 0 (omega arith)).apart, separate_places (y ∷ ys) (next_places p))

pub tidy_places : {d : Span} {m : List Span} → ByPlaces d m → Tidy 0 m
tidy_places {m = m} p = record { ordered = ordered_places 0 m (λ h. omega arith) p; separate = separate_places m p }

full_places : (b : ℕ) (d : Span) (m : List Span) (i : ℕ) → Ordered b m → i < length m → (get_or m i d).lo < (get_or m i d).hi
full_places b d [] i o h = omega arith
full_places b d (x ∷ xs) zero o h = o.1
full_places b d (x ∷ xs) (suc i) o h = full_places x.hi d xs i o.2 (omega arith)

follow_places : (b : ℕ) (d : Span) (m : List Span) (i : ℕ) → Ordered b m → Separate m → suc i < length m → Follows (get_or m i d) (get_or m (suc i) d)
follow_places b d [] i o s h = absurd (omega arith)
follow_places b d (x ∷ []) i o s h = absurd (omega arith)
follow_places b d (x ∷ y ∷ ys) zero o s h = record { past = o.2.0; apart = s.0 }
follow_places b d (x ∷ y ∷ ys) (suc i) o s h = follow_places x.hi d (y ∷ ys) i o.2 s.1 (omega arith)

pub places_tidy : {b : ℕ} (d : Span) {m : List Span} → Tidy b m → ByPlaces d m
places_tidy {b} d {m} t = record { full = λ i h. full_places b d m i t.ordered h; next = λ i h. follow_places b d m i t.ordered t.separate h }

-- what the span at a place holds, the list holds
pub at_place : (b : ℕ) (d : Span) (m : List Span) (i k : ℕ) → Ordered b m → i < length m → Within (get_or m i d).lo (get_or m i d).hi k → at m k ≡ some (get_or m i d).label
at_place b d [] i k o h w = absurd (omega arith)
at_place b d (x ∷ xs) zero k o h w = at_in x xs k w
at_place b d (x ∷ xs) (suc i) k o h w = at_behind x xs k o.2 (at_place x.hi d xs i k o.2 (omega arith) w)
