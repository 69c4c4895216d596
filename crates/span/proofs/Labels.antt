-- Spans with other labels: what they hold, and that edits may come before or after.
use Prim.Native.Nat.{ℕ, ◌≤◌, ◌<◌}
use native.Mathlib.Omega.{arith}
use mathlib.Core.Path.{◌≡◌, refl, ap, ◌∙◌}
use mathlib.Core.Bool.{Bool, true, false, cond}
use mathlib.Core.List.{List, [], ◌∷◌}
use mathlib.Core.Option.{Option, some, none}
use Rattle.span.specs.Span.{Span, span, inside, at, Ordered, Upto, Tidy, Means, joined, piece, Edit, Real, history, last}
use Rattle.span.specs.Labels.{relabelled, through, relabelled_edits}
use Rattle.span.proofs.Tests.{Within, place, below, among, beyond}
use Rattle.span.proofs.Holding.{ordered_from, at_in, at_out, at_below}
use Rattle.span.proofs.Laws.{only, reworded, nothing, itself, joined_means, history_means}

-- ONE PIECE, with a label or none
ordered_piece : (b lo hi : ℕ) (new : Option ℕ) (m : List Span) → b ≤ lo → lo < hi → Ordered hi m → Ordered b (piece lo hi new m)
ordered_piece b lo hi none m h i o = ordered_from {b = hi} m (omega arith) o
ordered_piece b lo hi (some v) m h i o = (h, i, o)

upto_piece : (c lo hi : ℕ) (new : Option ℕ) (m : List Span) → hi ≤ c → Upto c m → Upto c (piece lo hi new m)
upto_piece c lo hi none m h u = u
upto_piece c lo hi (some v) m h u = (h, u)

in_piece : (lo hi : ℕ) (new : Option ℕ) (m : List Span) (k : ℕ) → lo ≤ k → k < hi → Ordered hi m → at (piece lo hi new m) k ≡ new
in_piece lo hi none m k p q o = at_below m k o q
in_piece lo hi (some v) m k p q o = at_in (span lo hi v) m k (omega arith)

off_piece : (lo hi : ℕ) (new : Option ℕ) (m : List Span) (k : ℕ) → (Within lo hi k → ⊥) → at (piece lo hi new m) k ≡ at m k
off_piece lo hi none m k n = refl
off_piece lo hi (some v) m k n = at_out (span lo hi v) m k n

-- ALL OF A LIST: it stays in order and within its bounds, and holds what f makes of what was held
pub ordered_relabelled : (f : ℕ → Option ℕ) (b : ℕ) (m : List Span) → Ordered b m → Ordered b (relabelled f m)
unfolding relabelled
ordered_relabelled f b [] o = tt
ordered_relabelled f b (x ∷ xs) o = ordered_piece b x.lo x.hi (f x.label) (relabelled f xs) o.0 o.1 (ordered_relabelled f x.hi xs o.2)

pub upto_relabelled : (f : ℕ → Option ℕ) (c : ℕ) (m : List Span) → Upto c m → Upto c (relabelled f m)
unfolding relabelled
upto_relabelled f c [] u = tt
upto_relabelled f c (x ∷ xs) u = upto_piece c x.lo x.hi (f x.label) (relabelled f xs) u.0 (upto_relabelled f c xs u.1)

pub at_relabelled : (f : ℕ → Option ℕ) (b : ℕ) (m : List Span) (k : ℕ) → Ordered b m → at (relabelled f m) k ≡ through f (at m k)
unfolding relabelled at
at_relabelled f b [] k o = refl
at_relabelled f b (x ∷ xs) k o =
    let rest = at_relabelled f x.hi xs k o.2 in
    let out : (Within x.lo x.hi k → ⊥) → at (relabelled f (x ∷ xs)) k ≡ through f (at (x ∷ xs) k) =
    λ n. rw (at_out x xs k n) (off_piece x.lo x.hi (f x.label) (relabelled f xs) k n ∙ rest) in
    elim (place x.lo x.hi k) [
      | below p ↦ out (omega arith)
      | among p q ↦ rw (at_in x xs k (omega arith)) (in_piece x.lo x.hi (f x.label) (relabelled f xs) k p q (ordered_relabelled f x.hi xs o.2))
      | beyond p q ↦ out (omega arith)
    ]

-- WITH OTHER LABELS, and what touches joined: the one tidy list that holds what f makes of what was held
pub relabelled_means : (f : ℕ → Option ℕ) (m : List Span) → Ordered 0 m → Means (joined (relabelled f m)) (λ k. through f (at m k))
relabelled_means f m o = reworded (joined_means (relabelled f m) (ordered_relabelled f 0 m o)) (λ k. at_relabelled f 0 m k o)

real_relabelled : (f : ℕ → Option ℕ) (es : List Edit) → Real es → Real (relabelled_edits f es)
unfolding relabelled_edits
real_relabelled f [] r = tt
real_relabelled f (e ∷ es) r = (r.0, real_relabelled f es r.1)

through_cond : (f : ℕ → Option ℕ) (t : Bool) (a b : Option ℕ) → cond t (through f a) (through f b) ≡ through f (cond t a b)
through_cond f true a b = refl
through_cond f false a b = refl

last_relabelled : (f : ℕ → Option ℕ) (es : List Edit) (k : ℕ) (old : Option ℕ) → last (relabelled_edits f es) k (through f old) ≡ through f (last es k old)
unfolding relabelled_edits last
last_relabelled f [] k old = refl
last_relabelled f (e ∷ es) k old =
    ap (last (relabelled_edits f es) k) (through_cond f (inside e.lo e.hi k) e.new old)
    ∙ last_relabelled f es k (cond (inside e.lo e.hi k) e.new old)

-- EDITS COMMUTE WITH IT: what edits leave, with other labels and joined, is what the edits with other labels leave of the list with other labels and joined
pub history_relabelled : (f : ℕ → Option ℕ) (es : List Edit) (m : List Span) → Real es → Tidy 0 m
    → joined (relabelled f (history es m)) ≡ history (relabelled_edits f es) (joined (relabelled f m))
history_relabelled f es m r t =
    let h = history_means es r (itself t) in
    only (reworded (relabelled_means f (history es m) h.tidy.ordered) (λ k. ap (through f) (h.holds k)))
    (reworded (history_means (relabelled_edits f es) (real_relabelled f es r) (relabelled_means f m t.ordered)) (λ k. last_relabelled f es k (at m k)))

-- FORGETTING: so from nothing, to forget what a label tells after all edits is to forget it in each
pub forgotten : (f : ℕ → Option ℕ) (es : List Edit) → Real es → joined (relabelled f (history es [])) ≡ history (relabelled_edits f es) []
unfolding relabelled joined
forgotten f es r = history_relabelled f es [] r nothing.tidy
