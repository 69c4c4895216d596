-- The answers of a lookup, as code finds them by its search and its tests: once for both kinds.
use Prim.Native.Nat.{ℕ, zero, suc, ◌-◌, ◌≤◌, ◌<◌}
use native.Mathlib.Omega.{arith}
use native.Mathlib.Decide.{dec_lt}
use native.Mathlib.Numerals.{add-one}
use mathlib.Core.Path.{◌≡◌, refl, sym, ap, ◌∙◌}
use mathlib.Core.Bool.{Bool, true, false}
use borrow.Author.Tests.{lt-ltb, le-ltb, le-leb, lt-leb, eq-eqb, ne_eqb}
use lib.ListN.{length, get_or}
use lib.IntN.{ℤ, pos}
use Rattle.span.specs.Span.{Span, span}
use Rattle.span.specs.Operations.{spans_overlap, any, holds}
use Rattle.key.specs.Rank.{rank}
use Rattle.key.specs.Range.{Kind, span_of}
use Rattle.key.specs.InnerDecides.{Decides}
use Rattle.key.proofs.Answers.{not_full}
use Rattle.outcomes.specs.Stored.{ranges, Sound}
use Rattle.outcomes.specs.declared.Stored.{Stored}
use Rattle.outcomes.specs.Outcomes.{first_place, how_many, part_of, range_at_sound, lookup_sound, contains_sound, overlaps_sound, overlapping_sound}
use Rattle.outcomes.proofs.Formed.{shape, good, length_ranges, get_or_ranges}
use Rattle.store.specs.InnerCheck.{span_at}
use Rattle.store.specs.InnerSearch.{Reached, FirstPast}
use Rattle.store.proofs.Checked.{formed_steps}
use Rattle.lookup.proofs.Places.{nth, First, Exactly, exactly_first, first_as, exactly_as, is_first, the_first, any_first, how_many_lem, Rising, holds_meets, meets_at, meets_none, meets_part}
use Rattle.std.specs.Prelude.{Option, Ok, Err, Some, None, cond, ltb}
use Rattle.std.specs.Option.{is_some}
use Rattle.answers.specs.declared.Refusal.TheVariants.{EmptyRange}
use Rattle.outcomes.specs.Answered.{entry, places_from}

-- the place of the range that holds a key, as code answers it
abbrev pub place_in : Kind → Stored → ℤ → Option ℕ
place_in kind m k = let p = first_place (holds (rank k)) (ranges kind m) in cond (ltb p m.count) (Some p) None

-- a place of a map
module _ (m : Stored) (i : ℕ) where
  pub placed_at : i < m.count → Ok (Some (entry (get_or m.starts i (pos 0)) (get_or m.ends i (pos 0)) (get_or m.values i 0))) ≡ range_at_sound m i
  unfolding range_at_sound
  placed_at h = rw (lt-ltb i m.count h)

  pub placed_none : m.count ≤ i → (Ok None) ≡ range_at_sound m i
  unfolding range_at_sound
  placed_none h = rw (le-ltb i m.count h)

module _ {kind : Kind} {m : Stored} (sound : Sound kind m) where
  -- the ranges of the map, place by place
  pub as_many : length (ranges kind m) ≡ m.count
  as_many = length_ranges kind (length m.starts) m (shape sound) (good sound).held

  pub nth_place : (j : ℕ) → j < m.count → nth (ranges kind m) j ≡ span_at kind m j
  nth_place j h = get_or_ranges kind (length m.starts) m (shape sound) (good sound).held j (span 0 0 0) h

  full : (j : ℕ) → j < m.count → (span_at kind m j).lo < (span_at kind m j).hi
  full j h = (formed_steps kind (shape sound) (good sound) j h).full

  past : (i j : ℕ) → i < j → j < m.count → (span_at kind m i).hi ≤ (span_at kind m j).lo
  past i zero h b = absurd (omega arith)
  past i (suc j) h b =
      let next = rw (add-one j) at (formed_steps kind (shape sound) (good sound) j (omega arith)).past in
      elim (dec_lt i j) [
        | yes q ↦ omega (arith, past i j q (omega arith), full j (omega arith), next b)
        | no q ↦ let e : i ≡ j = omega arith in rw e (next b)
      ]

  pub rising : Rising (span_at kind m) m.count
  rising = record { full = full; past = past }

  first_range : {t : Span → Bool} {p : ℕ} → First t (span_at kind m) m.count p → p ≡ first_place t (ranges kind m)
  first_range {t} {p} h = is_first t (ranges kind m) p (rw as_many (first_as (λ j i. ap t (nth_place j i)) h))

  pub the_first_range : (t : Span → Bool) → First t (span_at kind m) m.count (first_place t (ranges kind m))
  the_first_range t = first_as (λ j i. ap t (sym (nth_place j i))) (rw as_many at (the_first t (ranges kind m)))

  any_at : (t : Span → Bool) {p : ℕ} → p ≡ first_place t (ranges kind m) → p < m.count → any t (ranges kind m) ≡ true
  any_at t {p} e h = any_first t (ranges kind m) ∙ rw (as_many, ← e) (lt-ltb p m.count h)

  any_none : (t : Span → Bool) {p : ℕ} → p ≡ first_place t (ranges kind m) → m.count ≤ p → any t (ranges kind m) ≡ false
  any_none t {p} e h = any_first t (ranges kind m) ∙ rw (as_many, ← e) (le-ltb p m.count h)

  -- the place of a key
  module _ {k : ℤ} {p : ℕ} (r : Reached kind m.count m.ends k p) where
    pub place_found : p < m.count → rank (get_or m.starts p (pos 0)) ≤ rank k → Some p ≡ place_in kind m k
    place_found i h =
        let e = first_range {t = holds (rank k)} (first_as (λ j b. holds_meets (rank k) (span_at kind m j)) (meets_at rising (span (rank k) (suc (rank k)) 0) r.below r.at i (omega arith))) in
        rw (← e, lt-ltb p m.count i)

    pub place_none : (p < m.count → rank k < rank (get_or m.starts p (pos 0))) → None ≡ place_in kind m k
    place_none h =
        let e = first_range {t = holds (rank k)} (first_as (λ j b. holds_meets (rank k) (span_at kind m j)) (meets_none rising (span (rank k) (suc (rank k)) 0) r.below r.at (λ i. omega (arith, h i)))) in
        rw (← e, le-ltb m.count m.count (omega arith))

  -- what is answered of the place that was found
  module _ (k : ℤ) where
    abbrev place : ℕ
    place = first_place (holds (rank k)) (ranges kind m)

    pub found_at : {p : ℕ} → place_in kind m k ≡ Some p → range_at_sound m p ≡ lookup_sound kind m k
    unfolding lookup_sound
    found_at {p} e = elim (dec_lt place m.count) [
      | yes h ↦ let f = rw (lt-ltb place m.count h) at e in let g : p ≡ place = cc in ap (range_at_sound m) g
      | no h ↦ let f = rw (le-ltb place m.count (omega arith)) at e in cc
    ]

    pub found_none : place_in kind m k ≡ None → Ok None ≡ lookup_sound kind m k
    unfolding lookup_sound
    found_none e = elim (dec_lt place m.count) [
      | yes h ↦ let f = rw (lt-ltb place m.count h) at e in cc
      | no h ↦ placed_none m place (omega arith)
    ]

    pub contains_is : Ok (is_some (place_in kind m k)) ≡ contains_sound kind m k
    unfolding contains_sound
    contains_is = elim (dec_lt place m.count) [
      | yes h ↦ rw (lt-ltb place m.count h, any_at (holds (rank k)) {p = place} refl h)
      | no h ↦ rw (le-ltb place m.count (omega arith), any_none (holds (rank k)) {p = place} refl (omega arith))
    ]

  -- a query
  module _ (s e : ℤ) where
    abbrev q : Span
    q = span_of kind s e 0

    pub met_empty : q.hi ≤ q.lo → Err EmptyRange ≡ overlaps_sound kind m s e
    unfolding overlaps_sound
    met_empty h = rw (le-leb q.hi q.lo h)

    pub part_empty : q.hi ≤ q.lo → Err EmptyRange ≡ overlapping_sound kind m s e
    unfolding overlapping_sound
    part_empty h = rw (le-leb q.hi q.lo h)

    module _ (h : q.lo < q.hi) {p : ℕ} (r : Reached kind m.count m.ends s p) where
      pub met_yes : p < m.count → rank (get_or m.starts p (pos 0)) < q.hi → (Ok true) ≡ overlaps_sound kind m s e
      unfolding overlaps_sound
      met_yes i b = rw (lt-leb q.hi q.lo h, any_at (spans_overlap q) (first_range (meets_at rising q r.below r.at i b)) i)

      pub met_no : (p < m.count → q.hi ≤ rank (get_or m.starts p (pos 0))) → (Ok false) ≡ overlaps_sound kind m s e
      unfolding overlaps_sound
      met_no b = rw (lt-leb q.hi q.lo h, any_none (spans_overlap q) (first_range (meets_none rising q r.below r.at b)) (omega arith))

      -- what the code answers: whether the range at p begins before the query's end
      pub met_is : p < m.count → (b : Bool) → Decides b (rank (get_or m.starts p (pos 0)) < q.hi) → Ok b ≡ overlaps_sound kind m s e
      met_is i true d = met_yes i (d.right refl)
      met_is i false d = met_no (λ _. not_full d refl)

      module _ {n : ℕ} (w : FirstPast kind m.count m.starts p e n) where
        pub exactly_met : Exactly (spans_overlap q) (span_at kind m) m.count p n
        exactly_met = meets_part rising q r.below r.at w.from w.within w.before w.at

        many : n - p ≡ how_many (spans_overlap q) (ranges kind m)
        many = how_many_lem (spans_overlap q) (ranges kind m) p n (rw as_many (exactly_as (λ j i. ap (spans_overlap q) (nth_place j i)) exactly_met))

        pub part_none : n ≡ p → Ok (places_from 0 0) ≡ overlapping_sound kind m s e
        unfolding overlapping_sound part_of
        part_none z = rw (lt-leb q.hi q.lo h, eq-eqb (how_many (spans_overlap q) (ranges kind m)) 0 (omega (arith, many)))

        pub part_some : p < n → Ok (places_from p (n - p)) ≡ overlapping_sound kind m s e
        unfolding overlapping_sound part_of
        part_some i =
            rw (lt-leb q.hi q.lo h, ne_eqb (how_many (spans_overlap q) (ranges kind m)) 0 (λ z. omega (arith, many)), ← many, ← first_range (exactly_first i exactly_met))
