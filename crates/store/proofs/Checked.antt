-- What the check decides place by place is what `well_formed` says of the whole map. Stated once, over the kind of range.
use Prim.Native.Nat.{ℕ, suc, ◌+◌, ◌≤◌, ◌<◌}
use native.Mathlib.Omega.{arith}
use native.Mathlib.Decide.{dec_lt}
use native.Mathlib.Numerals.{add-one}
use mir.Facts.{sfits_lit}
use mathlib.Core.Path.{◌≡◌, refl, sym, ap, subst, ◌∙◌}
use mathlib.Core.Logic.{◌⊎◌, inl, inr, ⊎_elim}
use mathlib.Core.Bool.{Bool, true, false, not}
use borrow.Author.Tests.{eq-eqb, ne_eqb}
use lib.Dec.{eqb}
use Rattle.key.proofs.Answers.{holds, fails, never}
use Rattle.std.specs.Bool.{MatchBool}
use Rattle.std.specs.List.{AllWithin, HoldsAt, range_with_len}
use Rattle.std.proofs.lemmas.List.FromFn.{length-range_with_len, get_or-range_with_len}
use lib.ListN.{length, get_or}
use Rattle.span.specs.Span.{span, Tidy}
use Rattle.span.proofs.Pieces.{tidy_places, places_tidy}
use Rattle.key.specs.InnerDecides.{Decides}
use Rattle.key.specs.Range.{Kind}
use Rattle.outcomes.specs.Stored.{places, ranges, well_formed, AllFit, Sound}
use Rattle.outcomes.specs.declared.Stored.{Stored}
use Rattle.outcomes.proofs.Formed.{Formed, Shaped, formed, well_formed_lem, length_ranges, get_or_ranges}
use Rattle.store.specs.InnerCheck.{span_at, Step, Follows, Steps, Keys, Unused}

pub refused : (t : Bool) → (t ≡ true → ⊥) → false ≡ t
refused true h = absurd (h refl)
refused false h = refl

-- the test that two numbers differ
pub differ : (a b : ℕ) → Decides (not (eqb a b)) (a ≡ b → ⊥)
differ a b = elim (dec_lt a b) [
  | yes h ↦ rw (ne_eqb a b (λ e. omega arith)) (holds (λ e. omega arith))
  | no h ↦ elim (dec_lt b a) [
    | yes i ↦ rw (ne_eqb a b (λ e. omega arith)) (holds (λ e. omega arith))
    | no i ↦ rw (eq-eqb a b (omega arith)) (fails (λ f. f (omega arith)))
  ]
]

-- a place that has a next, and the last place
pub follows_step : {kind : Kind} {m : Stored} {k : ℕ} → Follows kind m k → Step kind m k
follows_step f = record { full = f.full; past = λ _. f.past; unlike = λ _. f.unlike }

pub step_follows : {kind : Kind} {m : Stored} {k : ℕ} → k + 1 < m.count → Step kind m k → Follows kind m k
step_follows h s = record { full = s.full; past = s.past h; unlike = s.unlike h }

pub all_steps : (kind : Kind) (m : Stored) (last : ℕ) → m.count ≡ last + 1 → ((k : ℕ) → k < last → Follows kind m k) → (span_at kind m last).lo < (span_at kind m last).hi → Steps kind m
all_steps kind m last e f l k h =
    elim (dec_lt k last) [
      | yes p ↦ follows_step (f k p)
      | no p ↦ let q : last ≡ k = omega arith in record { full = subst (λ (j : ℕ). (span_at kind m j).lo < (span_at kind m j).hi) q l; past = λ i. absurd (omega arith); unlike = λ i. absurd (omega arith) }
    ]

-- what `all` over the numbers below n answers
pub all_below : (good bad : ℕ → Type 0) (n : ℕ) (r : Bool)
    → MatchBool r (AllWithin good (range_with_len 0 n) 0 (length (range_with_len 0 n))) ((k : ℕ) × (k < length (range_with_len 0 n)) × HoldsAt bad (range_with_len 0 n) k)
    → (r ≡ true → (k : ℕ) → k < n → good k) × (r ≡ false → (k : ℕ) × (k < n) × bad k)
all_below good bad n true h = (λ _ k l. subst good (at k l) (h k 0 (omega arith) (omega (arith, length-range_with_len))), λ e. never (sym e))
  where
    at : (k : ℕ) → k < n → get_or (range_with_len 0 n) k 0 ≡ k
    at k l = get_or-range_with_len 0 n k 0 l ∙ omega arith
all_below good bad n false h =
    let l : h.0 < n = omega (arith, length-range_with_len, h.1) in
    (λ e. never e, λ _. (h.0, l, subst bad (get_or-range_with_len 0 n h.0 0 l ∙ omega arith) (h.2 0)))

-- b is the greatest key at which the next range may not begin: e, the end of a half-open range, where the two values v and w are the same, else the key before
module _ {v w e b : ℕ} (same : v ≡ w → b ≡ e) (other : (v ≡ w → ⊥) → b + 1 ≡ e) where
  bar_cases : ((v ≡ w) × (b ≡ e)) ⊎ ((v ≡ w → ⊥) × (b + 1 ≡ e))
  bar_cases =
      elim (dec_lt v w) [
        | yes p ↦ let h : v ≡ w → ⊥ = λ q. omega arith in inr (h, other h)
        | no p ↦ elim (dec_lt w v) [
          | yes q ↦ let h : v ≡ w → ⊥ = λ q'. omega arith in inr (h, other h)
          | no q ↦ let h : v ≡ w = omega arith in inl (h, same h)
        ]
      ]

  pub past_bar : {n : ℕ} → b < n → (e ≤ n) × (e ≡ n → v ≡ w → ⊥)
  past_bar h = ⊎_elim (λ p. (omega arith, λ t _. omega arith)) (λ p. (omega arith, λ _. p.0)) bar_cases

  pub at_bar : {n : ℕ} → n ≤ b → e ≤ n → (e ≡ n → v ≡ w → ⊥) → ⊥
  at_bar h p u = ⊎_elim (λ q. u (omega arith) q.0) (λ q. omega arith) bar_cases

module _ (kind : Kind) {n : ℕ} {m : Stored} (shape : Shaped n m) where
  module _ (held : m.count ≤ n) where
    -- the span at a live place of the list of ranges is the range at that place of the map
    at_place : (k : ℕ) → k < m.count → get_or (ranges kind m) k (span 0 0 0) ≡ span_at kind m k
    at_place k b = get_or_ranges kind n m shape held k (span 0 0 0) b

    steps_tidy : Steps kind m → Tidy 0 (ranges kind m)
    steps_tidy s =
        let l = length_ranges kind n m shape held in
        tidy_places {d = span 0 0 0} (record {
          full = λ k h. rw (at_place k (omega arith)) (s k (omega arith)).full;
          next = λ k h. rw (at_place k (omega arith), at_place (suc k) (omega arith), ← add-one k)
              (record { past = (s k (omega arith)).past (omega arith); apart = λ j. (s k (omega arith)).unlike (omega arith) j.touch j.alike });
        })

    tidy_steps : Tidy 0 (ranges kind m) → Steps kind m
    tidy_steps t k b =
        let l = length_ranges kind n m shape held in
        let p = places_tidy (span 0 0 0) t in
        record {
          full = rw (at_place k b) at (p.full k (omega arith));
          past = λ h. rw (add-one k) (rw (at_place k b, at_place (suc k) (omega arith)) at (p.next k (omega arith)).past);
          unlike = λ h. rw (add-one k) (λ t v. (rw (at_place k b, at_place (suc k) (omega arith)) at (p.next k (omega arith)).apart) (record { touch = t; alike = v }));
        }

  -- a well-formed map, place by place
  pub formed_steps : Formed kind n m → Steps kind m
  formed_steps f = tidy_steps f.held f.tidy

  -- the places from the count on are wrong: the map is refused
  pub refuses : (Unused n m → ⊥) → false ≡ well_formed kind n m
  refuses h = refused _ (λ e. let f = formed kind n m e in h (record { held = f.held; starts = f.starts; ends = f.ends; values = f.values }))

  -- they are right: the answer is that of the live places
  pub answers : (r : Bool) → Unused n m → Decides r (Steps kind m) → r ≡ well_formed kind n m
  answers true u d = sym (well_formed_lem kind n m (record { held = u.held; tidy = steps_tidy u.held (d.right refl); starts = u.starts; ends = u.ends; values = u.values }))
  answers false u d = refused _ (λ e. d.wrong refl (formed_steps (formed kind n m e)))

  -- the keys of the live places are i64, and those of the others are 0
  pub all_fit : Unused n m → ((k : ℕ) → k < m.count → Keys m k) → AllFit m.starts × AllFit m.ends
  all_fit u f = (
    (λ k. elim (dec_lt k m.count) [ yes p ↦ (f k p).start_fits | no p ↦ rw (u.starts k (omega arith)) (sfits_lit tt) ]),
    λ k. elim (dec_lt k m.count) [ yes p ↦ (f k p).end_fits | no p ↦ rw (u.ends k (omega arith)) (sfits_lit tt) ],
  )

-- what the check found of the columns of a whole map, as the callers ask for it
pub whole : (kind : Kind) {m : Stored} {r : Bool} → Shaped places m → r ≡ well_formed kind places m → (r ≡ true → AllFit m.starts × AllFit m.ends) → r ≡ true → Sound kind m
whole kind {m} shape e f t = record {
  ends_as = omega arith;
  values_as = omega arith;
  starts_fit = (f t).0;
  ends_fit = (f t).1;
  well = ap (λ (k : ℕ). well_formed kind k m) shape.starts ∙ sym e ∙ t;
}
