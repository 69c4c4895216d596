-- What is seen in a sound map, by its columns.
use Prim.Native.Nat.{ℕ, ◌+◌, ◌≤◌, ◌<◌, min}
use native.Mathlib.Omega.{arith}
use mathlib.Core.Path.{◌≡◌, sym, ap, subst, ◌∙◌}
use mathlib.Core.List.{List}
use lib.ListN.{length, get_or}
use lib.IntN.{pos}
use Rattle.span.specs.Span.{Span, span, Ordered}
use Rattle.key.specs.Rank.{rank}
use Rattle.key.specs.Range.{half_open}
use Rattle.outcomes.specs.Stored.{ranges, Sound}
use Rattle.outcomes.specs.declared.Stored.{Stored}
use Rattle.outcomes.specs.declared.StoredRef.{StoredRef}
use Rattle.outcomes.specs.Lent.{of_ref}
use Rattle.outcomes.proofs.Formed.{good, shape, length_ranges, get_or_ranges}
use Rattle.query.specs.InnerSeen.{none_there_span, Trails, Standing, Sees}
use Rattle.query.proofs.Walking.{sees_none, sees_before, sees_in, trails_next}

module _ (m : Stored) (sound : Sound half_open m) where
  abbrev xs : List Span
  xs = ranges half_open m

  pub held : m.count ≤ length m.starts
  held = (good sound).held

  pub many : length xs ≡ m.count
  many = length_ranges half_open (length m.starts) m (shape sound) held

  pub in_order : Ordered 0 xs
  in_order = (good sound).tidy.ordered

  pub range_here : (i : ℕ) → i < m.count → get_or xs i none_there_span ≡ span (rank (get_or m.starts i (pos 0))) (rank (get_or m.ends i (pos 0)))
      (get_or m.values i 0)
  range_here i h = get_or_ranges half_open (length m.starts) m (shape sound) held i none_there_span h

  module _ (i p : ℕ) (s : Standing xs i p) where
    pub look_none : (e u : ℕ) → m.count ≤ i → p < u → u ≤ e → Sees xs p e u 10 i
    look_none e u h on le = sees_none xs i p in_order s e u (omega (arith, many)) on le

    pub look_before : (e u : ℕ) → i < m.count → p < u → u ≤ e → u ≤ rank (get_or m.starts i (pos 0)) → Sees xs p e u 10 i
    look_before e u h on le lo = sees_before xs i p in_order s e u (omega (arith, many)) on le (rw (range_here i h) lo)

    pub look_in : (e u n : ℕ) → i < m.count → rank (get_or m.starts i (pos 0)) ≤ p → p < u → u ≤ e → u ≤ rank (get_or m.ends i (pos 0))
        → n ≡ min (get_or m.values i 0) 10 → Sees xs p e u n i
    look_in e u n h lo on le hi v =
        let r = range_here i h in
        let w : min (get_or xs i none_there_span).label 10 ≡ n = ap (λ (x : Span). min x.label 10) r ∙ sym v in
        subst (λ (c : ℕ). Sees xs p e u c i) w (sees_in xs i p in_order s e u (omega (arith, many)) on le (rw r lo) (rw r hi))

    -- the range at hand ends after the key
    pub not_gone : i < m.count → p < rank (get_or m.ends i (pos 0))
    not_gone h = let a = s.ahead (omega (arith, many)) in rw (range_here i h) at a

  module _ (i p : ℕ) (s : Trails xs i p) where
    pub caught : (i < m.count → p < rank (get_or m.ends i (pos 0))) → Standing xs i p
    caught f = record { trails = s; ahead = λ l. let h : i < m.count = omega (arith, many) in rw (range_here i h) (f h) }

    pub catches : i < m.count → rank (get_or m.ends i (pos 0)) ≤ p → Trails xs (i + 1) p
    catches h le = trails_next xs i p s (omega (arith, many)) (rw (range_here i h) le)

-- each column of a lent map has its places
module _ (m : StoredRef) (sound : Sound half_open (of_ref m)) where
  pub starts_held : m.count ≤ length m.starts.now
  starts_held = held (of_ref m) sound

  pub ends_held : m.count ≤ length m.ends.now
  ends_held = omega (arith, starts_held, sound.ends_as)

  pub values_held : m.count ≤ length m.values.now
  values_held = omega (arith, starts_held, sound.values_as)
