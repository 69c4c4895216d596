-- What the relations mean, for both kinds at once; and that each promise has one answer.
use Prim.Native.Nat.{ℕ, ◌≤◌, ◌<◌, min, max}
use native.Mathlib.Omega.{arith}
use native.Mathlib.Decide.{dec_lt}
use mathlib.Core.Path.{◌≡◌, refl, sym}
use mathlib.Core.Bool.{Bool, true, false, ◌||◌}
use borrow.Author.Tests.{ltb-true, leb-true, leb-false}
use lib.Dec.{ltb, leb}
use lib.IntN.{ℤ}
use Rattle.std.specs.Prelude.{Ok, Some, None}
use Rattle.span.specs.Span.{Span, inside}
use Rattle.span.specs.Operations.{spans_overlap}
use Rattle.span.proofs.Tests.{Within, yes_in, both, neither}
use Rattle.key.specs.Rank.{rank, lesser, greater}
use Rattle.key.specs.Range.{Kind, span_of, empty}
use Rattle.key.proofs.Laws.{rank_greater}
use Rattle.key.proofs.Lawful.{Lawful}
use Rattle.relations.specs.Relations.{spans_touch, related, range_contains, ranges_overlap, ranges_touch, ranges_intersect}
use Rattle.relations.proofs.Returns.{contains_yes, overlaps_yes, touches_yes, intersect_some}

-- yes is said only where no range is empty
related_yes : (b t : Bool) → related b t ≡ Ok true → (b ≡ false) × (t ≡ true)
related_yes true t e = cc
related_yes false t e = (refl, cc)

proper : (x : Span) → empty x ≡ false → x.lo < x.hi
proper x e = leb-false x.hi x.lo e

module _ (kind : Kind) (s e : ℤ) where
  abbrev x : Span
  x = span_of kind s e 0

  -- CONTAINS says yes exactly of the keys of the range
  pub contains_in : (k : ℤ) → range_contains kind s e k ≡ Ok true → Within x.lo x.hi (rank k)
  unfolding range_contains
  contains_in k h = yes_in x.lo x.hi (rank k) (related_yes (empty x) (inside x.lo x.hi (rank k)) h).1

  pub in_contains : (k : ℤ) → Within x.lo x.hi (rank k) → range_contains kind s e k ≡ Ok true
  in_contains k w = sym (contains_yes kind s e k (omega arith) w)

  module _ (s' e' : ℤ) where
    abbrev y : Span
    y = span_of kind s' e' 0

    -- OVERLAPS says yes exactly where some key is in both: the greater start is one
    pub overlaps_shares : ranges_overlap kind s e s' e' ≡ Ok true → Within x.lo x.hi (max x.lo y.lo) × Within y.lo y.hi (max x.lo y.lo)
    unfolding ranges_overlap spans_overlap
    overlaps_shares h =
        let (full, held) = related_yes (empty x || empty y) (spans_overlap x y) h in
        let (ex, ey) = neither (empty x) (empty y) full in
        let (p, q) = both (ltb x.lo y.hi) (ltb y.lo x.hi) held in
        (omega (arith, ltb-true x.lo y.hi p, ltb-true y.lo x.hi q, proper x ex, proper y ey), omega (arith, ltb-true x.lo y.hi p, ltb-true y.lo x.hi q, proper x ex, proper y ey))

    pub shares_overlaps : (k : ℕ) → Within x.lo x.hi k → Within y.lo y.hi k → ranges_overlap kind s e s' e' ≡ Ok true
    shares_overlaps k v w = sym (overlaps_yes kind s e s' e' (omega arith) (omega arith) (omega arith) (omega arith))

    -- k lies between the two ranges, in neither
    pub data Amid (k : ℕ) : Type 0 where
      past_first : x.hi ≤ k → k < y.lo → Amid k
      past_second : y.hi ≤ k → k < x.lo → Amid k

    -- TOUCHES says yes exactly where nothing lies between two ranges
    pub touches_near : ranges_touch kind s e s' e' ≡ Ok true → (k : ℕ) → Amid k → ⊥
    unfolding ranges_touch spans_touch
    touches_near h k a =
        let held = (related_yes (empty x || empty y) (spans_touch x y) h).1 in
        let (p, q) = both (leb x.lo y.hi) (leb y.lo x.hi) held in
        elim a [
          | past_first f t ↦ omega (arith, leb-true y.lo x.hi q)
          | past_second f t ↦ omega (arith, leb-true x.lo y.hi p)
        ]

    pub near_touches : x.lo < x.hi → y.lo < y.hi → ((k : ℕ) → Amid k → ⊥) → ranges_touch kind s e s' e' ≡ Ok true
    near_touches h i n = sym (touches_yes kind s e s' e' h i
        (elim (dec_lt y.hi x.lo) [ yes p ↦ absurd (n y.hi (past_second (omega arith) p)) | no p ↦ omega arith ])
        (elim (dec_lt x.hi y.lo) [ yes p ↦ absurd (n x.hi (past_first (omega arith) p)) | no p ↦ omega arith ]))

-- INTERSECT: what is left has exactly the keys that are in both, and nothing is left exactly where no key is in both
module _ (kind : Kind) (lawful : Lawful kind) (s e s' e' : ℤ) where
  abbrev both_of : Span
  both_of = span_of kind (greater s s') (lesser e e') 0

  record Ends : Type 0 where
    lo : both_of.lo ≡ max (span_of kind s e 0).lo (span_of kind s' e' 0).lo
    hi : both_of.hi ≡ min (span_of kind s e 0).hi (span_of kind s' e' 0).hi

  ends : Ends
  ends = record { lo = rank_greater s s'; hi = lawful.least e e' }

  pub left_in : (k : ℕ) → Within both_of.lo both_of.hi k → Within (span_of kind s e 0).lo (span_of kind s e 0).hi k × Within (span_of kind s' e' 0).lo (span_of kind s' e' 0).hi k
  left_in k w = let b = ends in (omega arith, omega arith)

  pub in_left : (k : ℕ) → Within (span_of kind s e 0).lo (span_of kind s e 0).hi k → Within (span_of kind s' e' 0).lo (span_of kind s' e' 0).hi k → Within both_of.lo both_of.hi k
  in_left k v w = let b = ends in omega arith

  pub shares_some : (k : ℕ) → Within (span_of kind s e 0).lo (span_of kind s e 0).hi k → Within (span_of kind s' e' 0).lo (span_of kind s' e' 0).hi k → ranges_intersect kind s e s' e' ≡ Some (record { start = greater s s'; end = lesser e e' })
  shares_some k v w = let i = in_left k v w in sym (intersect_some kind s e s' e' (omega arith))

  pub none_shares : ranges_intersect kind s e s' e' ≡ None → (k : ℕ) → Within (span_of kind s e 0).lo (span_of kind s e 0).hi k → Within (span_of kind s' e' 0).lo (span_of kind s' e' 0).hi k → ⊥
  none_shares n k v w = let z : ◌≡◌ {A = ℕ} 0 1 = cc (n, shares_some k v w) in omega arith
