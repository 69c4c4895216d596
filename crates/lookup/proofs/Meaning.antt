-- What the answers of a lookup mean, once over the kind of range: what the map holds at the key, and which places meet the query.
use Prim.Native.Nat.{ℕ, suc, ◌+◌, ◌-◌, ◌≤◌, ◌<◌, max}
use native.Mathlib.Omega.{arith}
use native.Mathlib.Decide.{dec_lt}
use mathlib.Core.Path.{◌≡◌, refl, ap, subst, ◌∙◌}
use mathlib.Core.Bool.{Bool, true, false, ◌||◌, cond}
use mathlib.Core.List.{List, [], ◌∷◌}
use mathlib.Core.Option.{Option, some, none}
use borrow.Author.Tests.{ltb-true, ltb-false, leb-true, leb-false}
use lib.Dec.{ltb, leb}
use lib.ListN.{length, get_or}
use lib.IntN.{ℤ, pos}
use Rattle.span.specs.Span.{Span, span, inside, at}
use Rattle.span.specs.Operations.{spans_overlap, any, holds}
use Rattle.span.proofs.Tests.{Within, in_same, yes_in}
use Rattle.span.proofs.Pieces.{at_place}
use Rattle.key.specs.Rank.{rank}
use Rattle.key.specs.Range.{Kind, span_of}
use Rattle.outcomes.specs.Stored.{ranges, Sound}
use Rattle.outcomes.specs.declared.Stored.{Stored}
use Rattle.outcomes.specs.Outcomes.{first_place, yes_no, lookup_sound, contains_sound, overlaps_sound, overlapping_sound}
use Rattle.key.specs.declared.Entry.{Entry}
use Rattle.outcomes.specs.declared.Part.{Part}
use Rattle.store.specs.InnerCheck.{span_at}
use Rattle.store.specs.InnerSearch.{Reached, FirstPast}
use Rattle.lookup.proofs.Places.{nth, Exactly, exactly_inside, missed_free, meets_none}
use Rattle.outcomes.proofs.Formed.{good}
use Rattle.lookup.proofs.Returns.{as_many, nth_place, the_first_range, rising, placed_at, placed_none, met_empty, met_yes, met_no, exactly_met, part_empty, part_none, part_some}
use Rattle.std.specs.Prelude.{Ok, Some, None}
use Rattle.outcomes.specs.Answered.{Found, entry, places_from}

-- is something held
abbrev pub is_held : Option ℕ → Bool
is_held none = false
is_held (some v) = true

any_held : (k : ℕ) (xs : List Span) → any (holds k) xs ≡ is_held (at xs k)
unfolding any holds at
any_held k [] = refl
any_held k (x ∷ xs) = go (inside x.lo x.hi k) (any_held k xs)
  where
    go : (b : Bool) → any (holds k) xs ≡ is_held (at xs k) → (b || any (holds k) xs) ≡ is_held (cond b (some x.label) (at xs k))
    go true e = refl
    go false e = e

-- CONTAINS says yes exactly where the map holds something
pub contains_means : (kind : Kind) (m : Stored) (k : ℤ) → contains_sound kind m k ≡ yes_no (is_held (at (ranges kind m) (rank k)))
unfolding contains_sound
contains_means kind m k = ap yes_no (any_held (rank k) (ranges kind m))

at_none : (k : ℕ) (xs : List Span) → ((j : ℕ) → j < length xs → holds k (nth xs j) ≡ false) → at xs k ≡ none
unfolding holds at
at_none k [] h = refl
at_none k (x ∷ xs) h = rw (h 0 (omega arith)) (at_none k xs (λ j i. h (suc j) (omega arith)))

-- what a lookup of the key k says: a stored range that holds the key, with the value that the map holds there; or that the map holds nothing there
pub data Meant (kind : Kind) (m : Stored) (k : ℤ) : Found → Type 0 where
  held : (p : ℕ) → p < m.count → Within (span_at kind m p).lo (span_at kind m p).hi (rank k) → at (ranges kind m) (rank k) ≡ some (get_or m.values p 0)
      → Meant kind m k (Ok (Some (entry (get_or m.starts p (pos 0)) (get_or m.ends p (pos 0)) (get_or m.values p 0))))
  free : at (ranges kind m) (rank k) ≡ none → Meant kind m k (Ok None)

-- an instant from lo up to hi at which a list holds something
pub record Shared (lo hi : ℕ) (xs : List Span) : Type 0 where
  pub instant : ℕ
  pub asked : Within lo hi instant
  pub label : ℕ
  pub held : at xs instant ≡ some label

-- of the places of a map, the n from p on meet the span x, and no other
pub record Meets (kind : Kind) (m : Stored) (x : Span) (p n : ℕ) : Type 0 where
  pub within : p + n ≤ m.count
  pub only : (j : ℕ) → j < m.count → spans_overlap x (span_at kind m j) ≡ inside p (p + n) j

module _ {kind : Kind} {m : Stored} (sound : Sound kind m) where
  -- what the range at a place holds, the map holds; and what none holds, it does not
  held_at : (p k : ℕ) → p < m.count → Within (span_at kind m p).lo (span_at kind m p).hi k → at (ranges kind m) k ≡ some (get_or m.values p 0)
  held_at p k h w =
      at_place 0 (span 0 0 0) (ranges kind m) p k (good sound).tidy.ordered (omega (arith, as_many sound)) (rw (nth_place sound p h) w)
      ∙ ap (λ (x : Span). some x.label) (nth_place sound p h)

  free_at : (k : ℕ) → ((j : ℕ) → j < m.count → holds k (span_at kind m j) ≡ false) → at (ranges kind m) k ≡ none
  free_at k h = at_none k (ranges kind m) (λ j i. let b : j < m.count = omega (arith, as_many sound) in ap (holds k) (nth_place sound j b) ∙ h j b)

  module _ (k : ℤ) where
    abbrev p : ℕ
    p = first_place (holds (rank k)) (ranges kind m)

    pub found_means : Meant kind m k (lookup_sound kind m k)
    unfolding lookup_sound holds
    found_means =
        let f = the_first_range sound (holds (rank k)) in
        elim (dec_lt p m.count) [
          | yes h ↦ let w = yes_in _ _ _ (f.at h) in subst (Meant kind m k) (placed_at m p h) (held p h w (held_at p (rank k) h w))
          | no h ↦ subst (Meant kind m k) (placed_none m p (omega arith)) (free (free_at (rank k) (λ j i. f.before j (omega arith))))
        ]

    -- a range that is answered holds the key, and the map holds its value there
    pub range_held : {s e : ℤ} {v : ℕ} → lookup_sound kind m k ≡ Ok (Some (entry s e v)) → Within (rank s) (kind.past e) (rank k) × (at (ranges kind m) (rank k) ≡ some v)
    range_held {s} {e} {v} a = go (lookup_sound kind m k) found_means a
      where
        go : (a : Found) → Meant kind m k a → a ≡ Ok (Some (entry s e v)) → Within (rank s) (kind.past e) (rank k) × (at (ranges kind m) (rank k) ≡ some v)
        go _ (held p h w u) a =
            let x : entry (get_or m.starts p (pos 0)) (get_or m.ends p (pos 0)) (get_or m.values p 0) ≡ entry s e v = cc in
            let b = ap (λ (y : Entry). y.start) x in
            let c = ap (λ (y : Entry). y.end) x in
            let d = ap (λ (y : Entry). y.value) x in
            (rw (← b, ← c) w, u ∙ ap some d)
        go _ (free n) a = let z : ◌≡◌ {A = ℕ} 0 1 = cc in absurd (omega arith)

    -- the answer is 5 exactly where the map holds nothing
    pub refused_free : lookup_sound kind m k ≡ (Ok None) → at (ranges kind m) (rank k) ≡ none
    refused_free e = go (lookup_sound kind m k) found_means e
      where
        go : (a : Found) → Meant kind m k a → a ≡ (Ok None) → at (ranges kind m) (rank k) ≡ none
        go _ (held p h w v) e = let z : ◌≡◌ {A = ℕ} 0 1 = cc in absurd (omega arith)
        go _ (free n) e = n

    pub free_refused : at (ranges kind m) (rank k) ≡ none → lookup_sound kind m k ≡ (Ok None)
    free_refused n = go (lookup_sound kind m k) found_means
      where
        go : (a : Found) → Meant kind m k a → a ≡ (Ok None)
        go _ (held p h w v) = let z : ◌≡◌ {A = ℕ} 0 1 = cc in absurd (omega arith)
        go _ (free n) = refl

  -- a query, the spans that end after it starts, and those that do not begin before it ends
  module _ (s e : ℤ) where
    abbrev q : Span
    q = span_of kind s e 0

    abbrev ahead : Span → Bool
    ahead x = ltb q.lo x.hi

    abbrev late : Span → Bool
    late x = leb q.hi x.lo

    abbrev from : ℕ
    from = first_place ahead (ranges kind m)

    abbrev to : ℕ
    to = first_place late (ranges kind m)

    reach : Reached kind m.count m.ends s from
    reach =
        let f = the_first_range sound ahead in
        record { within = f.within; below = λ j i. ltb-false _ _ (f.before j i); at = λ i. ltb-true _ _ (f.at i) }

    met_cases : {P : Type 0} → (q.hi ≤ q.lo → P) → (q.lo < q.hi → from < m.count → (span_at kind m from).lo < q.hi → P)
        → (q.lo < q.hi → (from < m.count → q.hi ≤ (span_at kind m from).lo) → P) → P
    met_cases f g n = elim (dec_lt q.lo q.hi) [
      | yes h ↦ elim (dec_lt from m.count) [
        | yes i ↦ elim (dec_lt (span_at kind m from).lo q.hi) [ yes b ↦ g h i b | no b ↦ n h (λ _. omega arith) ]
        | no i ↦ n h (λ c. absurd (omega arith))
      ]
      | no h ↦ f (omega arith)
    ]

    -- OVERLAPS says yes where some key of the query is held
    pub met_means : overlaps_sound kind m s e ≡ (Ok true) → Shared q.lo q.hi (ranges kind m)
    met_means a = met_cases
        (λ h. let r = met_empty sound s e h in let z : ◌≡◌ {A = ℕ} 0 1 = cc in absurd (omega arith))
        (λ h i b.
        let y = span_at kind m from in
        let k = max q.lo y.lo in
        let w : Within y.lo y.hi k = omega (arith, reach.at i, (rising sound).full from i) in
        record { instant = k; asked = omega arith; label = _; held = held_at from k i w })
        (λ h b. let r = met_no sound s e h reach b in let z : ◌≡◌ {A = ℕ} 0 1 = cc in absurd (omega arith))

    -- and no where none is
    pub unmet_means : overlaps_sound kind m s e ≡ (Ok false) → (k : ℕ) → Within q.lo q.hi k → at (ranges kind m) k ≡ none
    unmet_means a k w = met_cases
        (λ h. absurd (omega arith))
        (λ h i b. let r = met_yes sound s e h reach i b in let z : ◌≡◌ {A = ℕ} 0 1 = cc in absurd (omega arith))
        (λ h b. free_at k (λ j i. missed_free q (span_at kind m j) k w ((meets_none (rising sound) q reach.below reach.at b).before j i)))

    module _ (h : q.lo < q.hi) where
      in_order : from ≤ to
      in_order = elim (dec_lt to from) [
        | yes i ↦
            let b = reach.below to i in
            let l : q.hi ≤ (span_at kind m to).lo = leb-true _ _ ((the_first_range sound late).at (omega (arith, reach.within))) in
            absurd (omega (arith, (rising sound).full to (omega (arith, reach.within))))
        | no i ↦ omega arith
      ]

      walk : FirstPast kind m.count m.starts from e to
      walk =
          let f = the_first_range sound late in
          record { from = in_order; within = f.within; before = λ j i b. leb-false _ _ (f.before j i); at = λ i. leb-true _ _ (f.at i) }

      exactly : Exactly (spans_overlap q) (span_at kind m) m.count from to
      exactly = exactly_met sound s e h reach walk

    -- OVERLAPPING: the places of the part that is answered meet the query, and no other place does
    pub part_means : {p n : ℕ} → overlapping_sound kind m s e ≡ Ok (places_from p n) → Meets kind m q p n
    part_means {p} {n} a = elim (dec_lt q.lo q.hi) [
      | yes h ↦ elim (dec_lt from to) [
        | yes l ↦
            let r = part_some sound s e h reach (walk h) l in
            let x : places_from from (to - from) ≡ places_from p n = cc in
            let u = ap (λ (y : Part). y.place) x in
            let v = ap (λ (y : Part). y.count) x in
            record { within = omega (arith, (walk h).within); only = λ j i. exactly_inside (exactly h) j i ∙ in_same (omega arith) (omega arith) }
        | no l ↦
            let z : to ≡ from = omega (arith, in_order h) in
            let r = part_none sound s e h reach (walk h) z in
            let x : places_from 0 0 ≡ places_from p n = cc in
            let u = ap (λ (y : Part). y.place) x in
            let v = ap (λ (y : Part). y.count) x in
            record { within = omega arith; only = λ j i. exactly_inside (exactly h) j i ∙ in_same (omega arith) (omega arith) }
      ]
      | no h ↦ let r = part_empty sound s e (omega arith) in let z : ◌≡◌ {A = ℕ} 0 1 = cc in absurd (omega arith)
    ]
