-- The comparison is the same for both kinds of range; and it is a total order of well-formed maps, in which equal maps and no others are equal.
use Prim.Native.Nat.compare
use Prim.Native.Nat.{Ordering}
use Prim.Native.Nat.{ℕ, ◌<◌}
use native.Mathlib.Omega.{arith}
use native.Mathlib.Decide.{dec_lt}
use mathlib.Core.Path.{◌≡◌, refl, sym, ap, ◌∙◌}
use mathlib.Core.List.{List, [], ◌∷◌, map}
use lib.Dec.{ltb}
use lib.ListN.{length, get_or, take}
use lib.Seq.{ext_get_or}
use lib.IntN.{ℤ, pos}
use Rattle.span.specs.Span.{Span, span}
use Rattle.span.specs.Operations.{flat, lex, span_order, flipped}
use Rattle.span.proofs.Order.{order_refl, order_same, order_flip, order_trans}
use Rattle.key.specs.Rank.{rank}
use Rattle.key.specs.Range.{Kind, half_open, inclusive, kind_of}
use Rattle.key.specs.declared.RangeKind.{RangeKind}
use Rattle.key.proofs.Laws.{rank_inj}
use Rattle.key.proofs.Lawful.{Lawful}
use Rattle.outcomes.specs.Stored.{stored, ranges, AllFit, Spare}
use Rattle.outcomes.specs.declared.Stored.{Stored}
use Rattle.outcomes.specs.Outcomes.{entries, order_sound}
use Rattle.key.specs.declared.Entry.{Entry}
use Rattle.outcomes.proofs.Formed.{Formed, Shaped, length_ranges, get_or_ranges}
use Rattle.outcomes.proofs.Bulk.{range, entries_ranges}
use Rattle.compare.proofs.Walk.{place_of}

-- ONE ORDER FOR BOTH KINDS

-- a kind whose ends ascend as their keys do
abbrev pub Ascends : Kind → Type 0
Ascends kind = (e e' : ℤ) → ltb (kind.past e) (kind.past e') ≡ ltb (rank e) (rank e')

module _ (kind : Kind) (up : Ascends kind) where
  entries_order : (xs ys : List Entry) → span_order (map (range kind) xs) (map (range kind) ys) ≡ span_order (map (range half_open) xs) (map (range half_open) ys)
  unfolding span_order flat lex
  entries_order [] [] = refl
  entries_order [] (y ∷ ys) = refl
  entries_order (x ∷ xs) [] = refl
  entries_order (x ∷ xs) (y ∷ ys) = rw (up x.end y.end, up y.end x.end, entries_order xs ys)

  -- maps of this kind compare as maps of half-open ranges do
  pub compared_kind : (a b : Stored) → order_sound kind a b ≡ order_sound half_open a b
  unfolding order_sound ranges
  compared_kind a b =
      rw (
        entries_ranges kind a.count a.starts a.ends a.values,
        entries_ranges kind b.count b.starts b.ends b.values,
        entries_ranges half_open a.count a.starts a.ends a.values,
        entries_ranges half_open b.count b.starts b.ends b.values,
      )
      (entries_order (take a.count (entries a.starts a.ends a.values)) (take b.count (entries b.starts b.ends b.values)))

pub half_open_ascends : Ascends half_open
half_open_ascends e e' = refl

pub inclusive_ascends : Ascends inclusive
inclusive_ascends e e' = rw compare.suc-suc

-- so one piece of code serves both kinds
pub one_order : (a b : Stored) → order_sound inclusive a b ≡ order_sound half_open a b
one_order = compared_kind inclusive inclusive_ascends

pub either_order : (k : RangeKind) (a b : Stored) → order_sound (kind_of k) a b ≡ order_sound half_open a b
either_order RangeKind.HalfOpen a b = refl
either_order RangeKind.Inclusive a b = one_order a b

-- A TOTAL ORDER

-- a column is known by its live places
column : {A : Type 0} (z : A) (n : ℕ) (l l' : List A) → length l ≡ length l' → Spare l n z → Spare l' n z → ((k : ℕ) → k < n → get_or l k z ≡ get_or l' k z) → l ≡ l'
column z n l l' e s s' h = ext_get_or z l l' e (λ k b. elim (dec_lt k n) [ yes q ↦ h k q | no q ↦ s k (omega arith) ∙ sym (s' k (omega arith)) ])

-- a map of n places, as the check leaves it
pub record Good (kind : Kind) (n : ℕ) (m : Stored) : Type 0 where
  pub shape : Shaped n m
  pub formed : Formed kind n m
  pub starts : AllFit m.starts
  pub ends : AllFit m.ends

-- two maps that hold the same ranges
module _ (kind : Kind) (law : Lawful kind) (n : ℕ) (a b : Stored) (g : Good kind n a) (h : Good kind n b) (r : ranges kind a ≡ ranges kind b) where
  count_same : a.count ≡ b.count
  count_same = sym (length_ranges kind n a g.shape g.formed.held) ∙ ap length r ∙ length_ranges kind n b h.shape h.formed.held

  place_same : (k : ℕ) → k < a.count → place_of kind a k ≡ place_of kind b k
  place_same k l =
      let d : Span = span 0 0 0 in
      let l' : k < b.count = omega (arith, count_same) in
      sym (get_or_ranges kind n a g.shape g.formed.held k d l) ∙ ap (λ (xs : List Span). get_or xs k d) r ∙ get_or_ranges kind n b h.shape h.formed.held k d l'

  starts_same : a.starts ≡ b.starts
  starts_same =
      column (pos 0) a.count a.starts b.starts (omega arith) g.formed.starts (λ k l. h.formed.starts k (omega (arith, count_same)))
      (λ k l. rank_inj (g.starts k) (h.starts k) (ap (λ (x : Span). x.lo) (place_same k l)))

  ends_same : a.ends ≡ b.ends
  ends_same =
      column (pos 0) a.count a.ends b.ends (omega arith) g.formed.ends (λ k l. h.formed.ends k (omega (arith, count_same)))
      (λ k l. sym (law.back (g.ends k)) ∙ ap (λ (x : Span). kind.ending x.hi) (place_same k l) ∙ law.back (h.ends k))

  values_same : a.values ≡ b.values
  values_same =
      column 0 a.count a.values b.values (omega arith) g.formed.values (λ k l. h.formed.values k (omega (arith, count_same)))
      (λ k l. ap (λ (x : Span). x.label) (place_same k l))

  pub ranges_same : a ≡ b
  ranges_same i = stored (count_same i) (starts_same i) (ends_same i) (values_same i)

module _ (kind : Kind) where
  -- equal maps come out equal, and no others do
  pub compared_refl : (a : Stored) → order_sound kind a a ≡ Ordering.eq
  unfolding order_sound
  compared_refl a = order_refl (ranges kind a)

  pub compared_same : Lawful kind → (n : ℕ) (a b : Stored) → Good kind n a → Good kind n b → order_sound kind a b ≡ Ordering.eq → a ≡ b
  unfolding order_sound
  compared_same law n a b g h e = ranges_same kind law n a b g h (order_same (ranges kind a) (ranges kind b) e)

  -- the two ways round are opposite
  pub compared_flip : (a b : Stored) → order_sound kind b a ≡ flipped (order_sound kind a b)
  unfolding order_sound
  compared_flip a b = order_flip (ranges kind a) (ranges kind b)

  -- less is transitive
  pub compared_trans : (a b c : Stored) → order_sound kind a b ≡ Ordering.lt → order_sound kind b c ≡ Ordering.lt → order_sound kind a c ≡ Ordering.lt
  unfolding order_sound
  compared_trans a b c = order_trans (ranges kind a) (ranges kind b) (ranges kind c)
