-- A sound map by its places, for both kinds: what its ranges are, how they follow each other, and which of them an edit meets or touches.
use Prim.Native.Nat.{ℕ, zero, suc, ◌+◌, ◌-◌, ◌≤◌, ◌<◌}
use native.Mathlib.Omega.{arith}
use native.Mathlib.Decide.{dec_lt}
use mathlib.Core.Path.{◌≡◌, sym, ap, subst, ◌∙◌}
use mathlib.Core.List.{List}
use lib.ListN.{length, get_or, drop, replicate, length-drop, length-replicate, get_or-replicate}
use lib.Seq.{get_or-drop, ext_get_or}
use lib.IntN.{pos}
use Rattle.span.specs.Span.{Span}
use Rattle.span.proofs.Pieces.{places_tidy}
use Rattle.key.specs.Rank.{rank}
use Rattle.key.specs.Range.{Kind, span_of}
use Rattle.key.proofs.Lawful.{Lawful}
use Rattle.outcomes.specs.Stored.{ranges, Sound}
use Rattle.outcomes.specs.declared.Stored.{Stored}
use Rattle.outcomes.proofs.Formed.{shape, good, length_ranges, get_or_ranges}
use Rattle.splice.specs.InnerSplice.{Filler}
use Rattle.edit.specs.InnerPlan.{nowhere, Touching, ColumnsOf}

-- what holds nothing from a place on is filled up with nothing there
spare_of : {A : Type 0} (l : List A) (count : ℕ) (z : A) → ((k : ℕ) → count ≤ k → get_or l k z ≡ z) → Filler l count z
spare_of l count z f =
    ext_get_or z (drop count l) (replicate (length l - count) z) (length-drop count l ∙ sym (length-replicate (length l - count) z))
    (λ i b. get_or-drop count l i z ∙ f (count + i) (omega arith) ∙ sym (get_or-replicate (length l - count) i z z (omega (arith, length-drop count l))))

module _ (kind : Kind) (law : Lawful kind) (m : Stored) (sound : Sound kind m) where
  abbrev xs : List Span
  xs = ranges kind m

  pub len : length xs ≡ m.count
  len = length_ranges kind (length m.starts) m (shape sound) (good sound).held

  pub at_place : (k : ℕ) → k < m.count → get_or xs k nowhere ≡ span_of kind (get_or m.starts k (pos 0)) (get_or m.ends k (pos 0)) (get_or m.values k 0)
  at_place k h = get_or_ranges kind (length m.starts) m (shape sound) (good sound).held k nowhere h

  full : (k : ℕ) → k < m.count → (get_or xs k nowhere).lo < (get_or xs k nowhere).hi
  full k h = (places_tidy nowhere (good sound).tidy).full k (omega (arith, len))

  after_next : (k : ℕ) → suc k < m.count → (get_or xs k nowhere).hi ≤ (get_or xs (suc k) nowhere).lo
  after_next k h = ((places_tidy nowhere (good sound).tidy).next k (omega (arith, len))).past

  apart : (i j : ℕ) → i < j → j < m.count → (get_or xs i nowhere).hi ≤ (get_or xs j nowhere).lo
  apart i zero h c = absurd (omega arith)
  apart i (suc j) h c =
      elim (dec_lt i j) [
        | yes p ↦ omega (arith, apart i j p (omega arith), full j (omega arith), after_next j c)
        | no p ↦ let e : j ≡ i = omega arith in subst (λ (k : ℕ). (get_or xs k nowhere).hi ≤ (get_or xs (suc j) nowhere).lo) e (after_next j c)
      ]

  -- the places that an edit meets or touches, by what a search and a walk find
  pub touching : (lo hi from to : ℕ) → lo ≤ hi → from ≤ to → to ≤ m.count
      → ((k : ℕ) → k < from → kind.past (get_or m.ends k (pos 0)) < lo) → ((k : ℕ) → from ≤ k → k < m.count → lo ≤ kind.past (get_or m.ends k (pos 0)))
      → ((k : ℕ) → from ≤ k → k < to → rank (get_or m.starts k (pos 0)) ≤ hi) → (to < m.count → hi < rank (get_or m.starts to (pos 0)))
      → Touching xs lo hi from to
  touching lo hi from to h a w b r g n = record {
    ascending = a;
    within = omega (arith, len);
    before = λ k c. omega (arith, b k c, ap (λ (x : Span). x.hi) (at_place k (omega arith)));
    reach = λ k c d. omega (arith, r k c (omega (arith, len)), ap (λ (x : Span). x.hi) (at_place k (omega (arith, len))));
    begun = λ k c. elim (dec_lt k from) [
      | yes p ↦ omega (arith, full k (omega arith), b k p, ap (λ (x : Span). x.hi) (at_place k (omega arith)))
      | no p ↦ omega (arith, g k (omega arith) c, ap (λ (x : Span). x.lo) (at_place k (omega arith)))
    ];
    after = λ k c d.
        let first = n (omega (arith, len)) in
        let is = ap (λ (x : Span). x.lo) (at_place to (omega (arith, len))) in
        elim (dec_lt to k) [
          | yes p ↦ omega (arith, full to (omega (arith, len)), apart to k p (omega (arith, len)))
          | no p ↦ let e : to ≡ k = omega arith in subst (λ (j : ℕ). hi < (get_or xs j nowhere).lo) e (omega arith)
        ];
  }

  pub columns : ColumnsOf m
  columns = record {
    ends_as = sound.ends_as;
    values_as = sound.values_as;
    held = (good sound).held;
    spare_starts = spare_of m.starts m.count (pos 0) (good sound).starts;
    spare_ends = spare_of m.ends m.count (pos 0) (good sound).ends;
    spare_values = spare_of m.values m.count 0 (good sound).values;
  }

  -- the places that an edit meets or touches stand in each column
  pub stand : {lo hi from to : ℕ} → Touching xs lo hi from to → (to ≤ length m.starts) × (to ≤ length m.ends) × (to ≤ length m.values)
  stand t = omega (arith, (good sound).held, t.within, len, sound.ends_as, sound.values_as)
