-- rangemap's a | b and a & b: what Union and Intersection give, collected into a set, one insert for each range, is `laid_over` and `common`, of both kinds.
use Prim.Native.Nat.{ℕ, suc, ◌≤◌}
use native.Mathlib.Omega.{arith}
use native.Mathlib.Decide.{dec_lt}
use mathlib.Core.Path.{◌≡◌, refl, ap, sym, ◌∙◌}
use mathlib.Core.List.{List, [], ◌∷◌}
use mathlib.Core.Bool.{Bool, true, false, cond}
use mathlib.Core.Option.{Option, some, none}
use lib.Dec.{ltb}
use Rattle.span.specs.Span.{Span, at, Ordered, Upto, Tidy, joined, Real, history}
use Rattle.span.specs.Operations.{puts, laid_over, common, when, spans_overlap, merged, absorb, united}
use Rattle.span.proofs.Holding.{at_upto, or_none}
use Rattle.span.proofs.Laws.{never, only, reworded, nothing, joined_means}
use Rattle.span.proofs.Sets.{over_means, rebuilt, common_means}
use Rattle.span.proofs.Union.{ordered_united, united_joined}
use Rattle.span.proofs.Local.{upto_at}
use Rattle.span.proofs.Walks.{Spaced, spaced_ordered, spaced_plain}
use Rattle.rust_algorithm.specs.Map.{map_extend}
use Rattle.rust_algorithm.specs.InclusiveMap.{StepFns, inclusive_extend}
use Rattle.rust_algorithm.specs.Operations.{set_or, set_and}
use Rattle.rust_algorithm.specs.Operations.{inclusive_set_or, inclusive_set_and}
use Rattle.rust_algorithm.proofs.History.{history_is, extend_history}
use Rattle.rust_algorithm.proofs.InclusiveHistory.{By, inclusive_history_is, inclusive_extend_history}
use Rattle.rust_algorithm.proofs.Union.{union_is, inclusive_union_is}
use Rattle.rust_algorithm.proofs.Intersection.{intersection_is, inclusive_intersection_is}

real_puts : (b : ℕ) (m : List Span) → Ordered b m → Real (puts m)
unfolding puts
real_puts b [] o = tt
real_puts b (x ∷ xs) o = (o.1, real_puts x.hi xs o.2)

puts_by : (c : ℕ) (m : List Span) → Upto c m → By c (puts m)
unfolding puts
puts_by c [] u = tt
puts_by c (x ∷ xs) u = (u.0, puts_by c xs u.1)

-- EXTEND by ranges that ascend: what joins is joined
pub over_nothing : (m : List Span) → Ordered 0 m → laid_over m [] ≡ joined m
over_nothing m o = only (reworded (over_means m [] o nothing) (λ k. or_none (at m k))) (joined_means m o)

history_over : (m : List Span) → history (puts m) [] ≡ laid_over m []
unfolding laid_over
history_over m = refl

pub extend_is : (m : List Span) → Ordered 0 m → map_extend m [] ≡ some (joined m)
extend_is m o = extend_history m [] ∙ history_is (puts m) [] (real_puts 0 m o) nothing.tidy ∙ ap some (history_over m ∙ over_nothing m o)

-- two sets: the ranges of each ascend, do not touch, and have the label 0
module _ (a b : List Span) (s : Spaced 0 a) (t : Spaced 0 b) (tidy-b : Tidy 0 b) where
  united_ordered : Ordered 0 (united a b)
  united_ordered = ordered_united 0 a b (spaced_ordered 0 a s) (spaced_ordered 0 b t)

  joined_over : joined (united a b) ≡ laid_over a b
  joined_over = united_joined a b (spaced_ordered 0 a s) tidy-b (spaced_plain 0 a s) (spaced_plain 0 b t)

  common_tidy : Tidy 0 (common a b)
  common_tidy = (common_means a b (spaced_ordered 0 a s) (spaced_ordered 0 b t)).tidy

  joined_common : joined (common a b) ≡ common a b
  joined_common = sym (over_nothing (common a b) common_tidy.ordered) ∙ rebuilt common_tidy

  -- OR: the union in maximal ranges
  pub or_is : set_or a b ≡ some (laid_over a b)
  unfolding set_or
  or_is = rw (union_is a b s t) (extend_is (united a b) united_ordered ∙ ap some joined_over)

  -- AND
  pub and_is : set_and a b ≡ some (common a b)
  unfolding set_and
  and_is = rw (intersection_is a b s t) (extend_is (common a b) common_tidy.ordered ∙ ap some joined_common)

-- a union reaches no further than the two, and an intersection no further than the second
upto_absorb : (c : ℕ) (x : Span) (m : List Span) → x.hi ≤ c → Upto c m → Upto c (absorb x m)
unfolding absorb merged
upto_absorb c x [] h u = (h, tt)
upto_absorb c x (y ∷ ys) h u =
    go (spans_overlap x y) (ltb x.lo y.lo) (upto_absorb c (merged x y) ys (omega arith) u.1) (upto_absorb c x ys h u.1)
  where
    go : (s t : Bool) → Upto c (absorb (merged x y) ys) → Upto c (absorb x ys)
        → let rest = absorb (cond s (merged x y) x) ys in Upto c (cond s rest (cond t (x ∷ y ∷ ys) (y ∷ rest)))
    go true t p q = p
    go false true p q = (h, u)
    go false false p q = (u.0, q)

pub upto_united : (c : ℕ) (a b : List Span) → Upto c a → Upto c b → Upto c (united a b)
unfolding united
upto_united c [] b u v = v
upto_united c (x ∷ xs) b u v = upto_absorb c x (united xs b) u.0 (upto_united c xs b u.1 v)

when_some : (a b : Option ℕ) (v : ℕ) → when a b ≡ some v → b ≡ some v
when_some none b v e = absurd (never e)
when_some (some u) b v e = e

pub upto_common : (c : ℕ) (a b : List Span) → Ordered 0 a → Ordered 0 b → Upto c b → Upto c (common a b)
upto_common c a b o q u =
    let f = common_means a b o q in
    upto_at 0 c (common a b) f.tidy.ordered (λ k v e. elim (dec_lt k c) [
      | yes p ↦ p
      | no p ↦ absurd (never (sym (at_upto c b k u (omega arith)) ∙ when_some (at a k) (at b k) v (sym (f.holds k) ∙ e)))
    ])

module _ (add-one sub-one : ℕ → Option ℕ) (greatest : ℕ) (steps : StepFns add-one sub-one greatest) where
  pub inclusive_extend_is : (m : List Span) → Ordered 0 m → Upto (suc greatest) m → inclusive_extend add-one sub-one m [] ≡ some (joined m)
  inclusive_extend_is m o u =
      inclusive_extend_history add-one sub-one greatest steps m []
      ∙ inclusive_history_is add-one sub-one greatest steps (puts m) [] (real_puts 0 m o) (puts_by (suc greatest) m u) nothing.tidy tt
      ∙ ap some (history_over m ∙ over_nothing m o)

  module _ (a b : List Span) (s : Spaced 0 a) (t : Spaced 0 b) (tidy-b : Tidy 0 b) (u : Upto (suc greatest) a) (v : Upto (suc greatest) b) where
    pub inclusive_or_is : inclusive_set_or add-one sub-one a b ≡ some (laid_over a b)
    unfolding inclusive_set_or
    inclusive_or_is = rw (inclusive_union_is a b s t)
        (inclusive_extend_is (united a b) (united_ordered a b s t tidy-b) (upto_united (suc greatest) a b u v) ∙ ap some (joined_over a b s t tidy-b))

    pub inclusive_and_is : inclusive_set_and add-one sub-one a b ≡ some (common a b)
    unfolding inclusive_set_and
    inclusive_and_is = rw (inclusive_intersection_is a b s t)
        (inclusive_extend_is (common a b) (common_tidy a b s t tidy-b).ordered
        (upto_common (suc greatest) a b (spaced_ordered 0 a s) (spaced_ordered 0 b t) v) ∙ ap some (joined_common a b s t tidy-b))
