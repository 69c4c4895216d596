-- The answers of the relations, as code finds them by its tests: once for both kinds.
use Prim.Native.Nat.{ℕ, ◌≤◌, ◌<◌}
use native.Mathlib.Omega.{arith}
use native.Mathlib.Decide.{dec_lt}
use mathlib.Core.Path.{◌≡◌, refl, sym}
use mathlib.Core.Bool.{Bool, true, false, ◌||◌, ◌&&◌, not}
use borrow.Author.Tests.{le-leb, lt-leb, lt-ltb, leb-true, ltb-true}
use lib.Dec.{ltb, leb}
use lib.IntN.{ℤ}
use Rattle.std.specs.Prelude.{Ok, Err, Some, None}
use Rattle.std.specs.Bool.{then_some}
use Rattle.answers.specs.declared.Refusal.TheVariants.{EmptyRange}
use Rattle.span.specs.Span.{Span}
use Rattle.span.specs.Operations.{spans_overlap}
use Rattle.span.proofs.Tests.{Within, in_yes, in_no, both as both_hold}
use Rattle.key.specs.InnerDecides.{Decides}
use Rattle.key.specs.Rank.{rank, lesser, greater}
use Rattle.key.specs.Range.{Kind, span_of, empty}
use Rattle.key.proofs.Answers.{never, decides_one}
use Rattle.relations.specs.Relations.{spans_touch, related, range_contains, ranges_overlap, ranges_touch, ranges_intersect}

pub empty_yes : (x : Span) → x.hi ≤ x.lo → empty x ≡ true
empty_yes x h = le-leb x.hi x.lo h

pub empty_no : (x : Span) → x.lo < x.hi → empty x ≡ false
empty_no x h = lt-leb x.hi x.lo h

not_lt : (a b : ℕ) → (a < b → ⊥) → b ≤ a
not_lt a b n = omega (arith, n)

-- a range is empty, the first or the second
or_right : (t : Bool) → (t || true) ≡ true
or_right true = refl
or_right false = refl

-- two tests, one after the other
pub and_also : {P Q : Type 0} {t : Bool} → P → Decides t Q → Decides t (P × Q)
and_also p d = record { right = λ e. (p, d.right e); wrong = λ e w. d.wrong e w.1 }

-- a test of the other sort
pub turned : {m n : ℕ} (t : Bool) → Decides t (n < m) → Decides (not t) (m ≤ n)
turned true d = record { right = λ e. never e; wrong = λ e w. let h = d.right refl in omega arith }
turned false d = record { right = λ e. not_lt _ _ (d.wrong refl); wrong = λ e. never (sym e) }

-- two comparisons of the definitions
lt_both : (a b c d : ℕ) → Decides (ltb a b && ltb c d) ((a < b) × (c < d))
lt_both a b c d = record {
  right = λ e. let (p, q) = both_hold (ltb a b) (ltb c d) e in (ltb-true a b p, ltb-true c d q);
  wrong = λ e w. never (sym (rw (lt-ltb a b w.0, lt-ltb c d w.1) at e));
}

le_both : (a b c d : ℕ) → Decides (leb a b && leb c d) ((a ≤ b) × (c ≤ d))
le_both a b c d = record {
  right = λ e. let (p, q) = both_hold (leb a b) (leb c d) e in (leb-true a b p, leb-true c d q);
  wrong = λ e w. never (sym (rw (le-leb a b w.0, le-leb c d w.1) at e));
}

module _ (kind : Kind) (s e : ℤ) where
  abbrev x : Span
  x = span_of kind s e 0

  module _ (k : ℤ) where
    pub contains_empty : x.hi ≤ x.lo → Err EmptyRange ≡ range_contains kind s e k
    unfolding range_contains
    contains_empty h = rw (empty_yes x h)

    pub contains_yes : x.lo < x.hi → Within x.lo x.hi (rank k) → Ok true ≡ range_contains kind s e k
    unfolding range_contains
    contains_yes h w = rw (empty_no x h, in_yes x.lo x.hi (rank k) w)

    -- what a test of a range that has a key says
    pub contains_told : x.lo < x.hi → (t : Bool) → Decides t (Within x.lo x.hi (rank k)) → related false t ≡ range_contains kind s e k
    unfolding range_contains
    contains_told h true d = contains_yes h (d.right refl)
    contains_told h false d = rw (empty_no x h, in_no x.lo x.hi (rank k) (d.wrong refl))

  module _ (s' e' : ℤ) where
    abbrev y : Span
    y = span_of kind s' e' 0

    -- the two relations ask the same of the ranges first
    none : (t : Bool) → ((x.lo < x.hi) × (y.lo < y.hi) → ⊥) → Err EmptyRange ≡ related (empty x || empty y) t
    none t n = elim (dec_lt x.lo x.hi) [
      | yes h ↦ rw (empty_yes y (not_lt y.lo y.hi (λ i. n (h, i))), or_right (empty x))
      | no h ↦ rw (empty_yes x (not_lt x.lo x.hi h))
    ]

    pub overlaps_empty : ((x.lo < x.hi) × (y.lo < y.hi) → ⊥) → Err EmptyRange ≡ ranges_overlap kind s e s' e'
    unfolding ranges_overlap
    overlaps_empty n = none (spans_overlap x y) n

    pub touches_empty : ((x.lo < x.hi) × (y.lo < y.hi) → ⊥) → Err EmptyRange ≡ ranges_touch kind s e s' e'
    unfolding ranges_touch
    touches_empty n = none (spans_touch x y) n

    module _ (h : x.lo < x.hi) (i : y.lo < y.hi) where
      pub overlaps_yes : x.lo < y.hi → y.lo < x.hi → Ok true ≡ ranges_overlap kind s e s' e'
      unfolding ranges_overlap spans_overlap
      overlaps_yes p q = rw (empty_no x h, empty_no y i, lt-ltb x.lo y.hi p, lt-ltb y.lo x.hi q)

      pub overlaps_told : (t : Bool) → Decides t ((x.lo < y.hi) × (y.lo < x.hi)) → related false t ≡ ranges_overlap kind s e s' e'
      unfolding ranges_overlap spans_overlap
      overlaps_told t d = rw (empty_no x h, empty_no y i, decides_one d (lt_both x.lo y.hi y.lo x.hi))

      pub touches_yes : x.lo ≤ y.hi → y.lo ≤ x.hi → Ok true ≡ ranges_touch kind s e s' e'
      unfolding ranges_touch spans_touch
      touches_yes p q = rw (empty_no x h, empty_no y i, le-leb x.lo y.hi p, le-leb y.lo x.hi q)

      pub touches_told : (t : Bool) → Decides t ((x.lo ≤ y.hi) × (y.lo ≤ x.hi)) → related false t ≡ ranges_touch kind s e s' e'
      unfolding ranges_touch spans_touch
      touches_told t d = rw (empty_no x h, empty_no y i, decides_one d (le_both x.lo y.hi y.lo x.hi))

    abbrev both : Span
    both = span_of kind (greater s s') (lesser e e') 0

    pub intersect_none : both.hi ≤ both.lo → None ≡ ranges_intersect kind s e s' e'
    unfolding ranges_intersect
    intersect_none h = rw (empty_yes both h)

    pub intersect_some : both.lo < both.hi → Some (record { start = greater s s'; end = lesser e e' }) ≡ ranges_intersect kind s e s' e'
    unfolding ranges_intersect
    intersect_some h = rw (empty_no both h)

    -- what a test of the ends says
    pub intersect_told : (t : Bool) → Decides t (both.lo < both.hi) → then_some t (record { start = greater s s'; end = lesser e e' }) ≡ ranges_intersect kind s e s' e'
    intersect_told true d = intersect_some (d.right refl)
    intersect_told false d = intersect_none (not_lt both.lo both.hi (d.wrong refl))
