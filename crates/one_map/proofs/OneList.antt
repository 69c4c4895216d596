-- THE ONE LIST: gaps, intersection and union write the only list that has their points, and a total is the number of keys that are covered.
use Prim.Native.Nat.{ℕ, zero, suc, ◌<◌}
use native.Mathlib.Omega.{arith}
use mathlib.Core.Path.{◌≡◌, refl, sym, ap, ◌∙◌}
use mathlib.Core.Bool.{Bool, true, false, ◌&&◌, ◌||◌, not, cond}
use mathlib.Core.List.{List, [], ◌∷◌}
use mathlib.Core.Option.{Option, some, none}
use borrow.Author.Tests.{lt-leb}
use lib.IntN.{ℤ}
use Rattle.span.specs.Span.{Span, inside, at, Ordered, Upto, Tidy, Means}
use Rattle.span.specs.Operations.{Plain, uncovered, unless, common, united, any, holds, links, count}
use Rattle.span.proofs.Laws.{the_only_one}
use Rattle.span.proofs.Sets.{gaps_means, gaps_plain, common_means, common_plain}
use Rattle.span.proofs.Union.{the_only_links, at_plain, ordered_united, plain_united}
use Rattle.span.proofs.Total.{upto_more, total_counts}
use Rattle.key.specs.Rank.{rank, keys, key_at}
use Rattle.key.specs.Range.{Kind}
use Rattle.key.proofs.Laws.{rank_key}
use Rattle.key.proofs.Lawful.{Lawful}
use Rattle.outcomes.specs.Stored.{ranges}
use Rattle.outcomes.specs.declared.Stored.{Stored}
use Rattle.outcomes.specs.Outcomes.{into_lists, gaps_sound, gaps}
use Rattle.outcomes.specs.Sets.{plain, SoundSet, total_is, intersection_sound, union_sound, total_sound, intersection, union, total_of}
use Rattle.outcomes.proofs.Storing.{upto_ranges}
use Rattle.outcomes.proofs.Sets.{covers, plain_ranges, intersection_points, union_points, union_neighbours}
use Rattle.one_map.specs.Events.{Proper, value_at}
use Rattle.one_map.proofs.Known.{proper_formed, proper_tidy, value_at_lem}

-- tidy sets that have the same points are one list
one_set : (xs ys : List Span) → Tidy 0 xs → Tidy 0 ys → Plain xs → Plain ys → ((k : ℕ) → covers xs k ≡ covers ys k) → xs ≡ ys
one_set xs ys t u l m e = the_only_one xs ys t u (λ k. at_plain xs k l ∙ rw (e k) (sym (at_plain ys k m)))

-- a point is in a list exactly when the list holds something there
points_gap : (t : Bool) (x : Span) (xs : List Span) (k : ℕ) → unless (at xs k) (cond t (some 0) none) ≡ cond (t && not (covers xs k)) (some 0) none
    → unless (at (x ∷ xs) k) (cond t (some 0) none) ≡ cond (t && not (covers (x ∷ xs) k)) (some 0) none
unfolding at any holds
points_gap t x xs k e = go t (inside x.lo x.hi k) e
  where
    go : (t u : Bool) → unless (at xs k) (cond t (some 0) none) ≡ cond (t && not (covers xs k)) (some 0) none
        → unless (cond u (some x.label) (at xs k)) (cond t (some 0) none) ≡ cond (t && not (u || covers xs k)) (some 0) none
    go true true e = refl
    go false true e = refl
    go t false e = e

gap_points : (t : Bool) (xs : List Span) (k : ℕ) → unless (at xs k) (cond t (some 0) none) ≡ cond (t && not (covers xs k)) (some 0) none
unfolding at any
gap_points true [] k = refl
gap_points false [] k = refl
gap_points t (x ∷ xs) k = points_gap t x xs k (gap_points t xs k)

point_is : (s t : Bool) → cond {A = Option ℕ} s (some 0) none ≡ cond t (some 0) none → s ≡ t
point_is true true e = refl
point_is true false e = absurd (let z : ◌≡◌ {A = ℕ} 0 1 = cc in omega arith)
point_is false true e = absurd (let z : ◌≡◌ {A = ℕ} 0 1 = cc in omega arith)
point_is false false e = refl

-- GAPS of a proper map
module _ {kind : Kind} {m : Stored} (p : Proper kind m) (s e : ℤ) (real : rank s < kind.past e) where
  abbrev free : List Span
  free = uncovered (rank s) (kind.past e) (ranges kind m)

  free_means : Means free (λ k. unless (at (ranges kind m) k) (cond (inside (rank s) (kind.past e) k) (some 0) none))
  free_means = gaps_means (rank s) (kind.past e) 0 (ranges kind m) real (proper_tidy p).ordered

  free_plain : Plain free
  free_plain = gaps_plain (rank s) (kind.past e) 0 (ranges kind m) real (proper_tidy p).ordered

  -- an instant is in one of them exactly when it is in the outer range and no stored range has it
  pub gaps_points : (k : ℕ) → covers free k ≡ (inside (rank s) (kind.past e) k && not (covers (ranges kind m) k))
  gaps_points k =
      let outer = inside (rank s) (kind.past e) k in
      point_is (covers free k) (outer && not (covers (ranges kind m) k))
      (sym (at_plain free k free_plain) ∙ free_means.holds k ∙ gap_points outer (ranges kind m) k)

  -- THE ONLY LIST OF GAPS: a tidy list of just these instants is the one that is written
  pub one_gaps : (xs : List Span) → Tidy 0 xs → Plain xs → ((k : ℕ) → covers xs k ≡ (inside (rank s) (kind.past e) k && not (covers (ranges kind m) k)))
      → (starts ends : List ℤ) → gaps kind m s e starts ends ≡ into_lists kind xs starts ends
  unfolding gaps gaps_sound
  one_gaps xs t l points starts ends =
      let is : free ≡ xs = one_set free xs free_means.tidy t free_plain l (λ k. gaps_points k ∙ sym (points k)) in
      rw (proper_formed p, lt-leb (kind.past e) (rank s) real, is)

-- TWO SETS
module _ {kind : Kind} {a b : Stored} (p : Proper kind a) (q : Proper kind b) (y : plain a ≡ true) (z : plain b ≡ true) where
  first : SoundSet kind a
  first = record { sound = p.sound; plain_too = y }

  second : SoundSet kind b
  second = record { sound = q.sound; plain_too = z }

  -- THE ONLY INTERSECTION: a tidy list of the common points is the one that is written
  pub one_intersection : (xs : List Span) → Tidy 0 xs → Plain xs → ((k : ℕ) → covers xs k ≡ (covers (ranges kind a) k && covers (ranges kind b) k))
      → (starts ends : List ℤ) → intersection kind a b starts ends ≡ into_lists kind xs starts ends
  unfolding intersection intersection_sound
  one_intersection xs t l points starts ends =
      let x = ranges kind a in
      let y' = ranges kind b in
      let c = common_means x y' (proper_tidy p).ordered (proper_tidy q).ordered in
      let d = common_plain x y' (proper_tidy p).ordered (proper_tidy q).ordered (plain_ranges kind b z) in
      let is : common x y' ≡ xs = one_set (common x y') xs c.tidy t d l (λ k. intersection_points kind first second k ∙ sym (points k)) in
      rw (proper_formed p, proper_formed q, y, z, is)

  -- THE ONLY UNION: an ascending list of the points of either, with two neighbours in one range just where one range of either set has both, is what is written
  pub one_union : (xs : List Span) → Ordered 0 xs → Plain xs → ((k : ℕ) → covers xs k ≡ (covers (ranges kind a) k || covers (ranges kind b) k))
      → ((k : ℕ) → any (links k) xs ≡ (any (links k) (ranges kind a) || any (links k) (ranges kind b)))
      → (starts ends : List ℤ) → union kind a b starts ends ≡ into_lists kind xs starts ends
  unfolding union union_sound
  one_union xs o l points pairs starts ends =
      let u = ordered_united 0 (ranges kind a) (ranges kind b) (proper_tidy p).ordered (proper_tidy q).ordered in
      let v = plain_united (ranges kind a) (ranges kind b) (plain_ranges kind a y) (plain_ranges kind b z) in
      let is : united (ranges kind a) (ranges kind b) ≡ xs = the_only_links (united (ranges kind a) (ranges kind b)) xs u o v l
      (λ k. union_points kind first second k ∙ sym (points k)) (λ k. union_neighbours kind first second k ∙ sym (pairs k)) in
      rw (proper_formed p, proper_formed q, y, z, is)

-- how often something is held depends on what is held alone
same_count : (f g : ℕ → Option ℕ) (n : ℕ) → ((k : ℕ) → k < n → f k ≡ g k) → count f n ≡ count g n
unfolding count
same_count f g zero e = refl
same_count f g (suc n) e = rw (same_count f g n (λ k h. e k (omega arith)), e n (omega arith))

-- TOTAL: at how many keys the set's lookup finds a range
pub total_keys : {kind : Kind} → Lawful kind → {m : Stored} → Proper kind m → plain m ≡ true
    → total_of kind m ≡ total_is (count (λ r. value_at kind m (key_at r)) keys)
unfolding total_of total_sound
total_keys {kind} law {m} p z =
    let xs = ranges kind m in
    let told : ℕ → Option ℕ = λ r. value_at kind m (key_at r) in
    let within : Upto keys xs = upto_more {b = law.limit} xs law.limit_keys (upto_ranges kind law m) in
    let each : (r : ℕ) → r < keys → at xs r ≡ told r = λ r h. ap (at xs) (sym (rank_key r h)) ∙ sym (value_at_lem p (key_at r)) in
    rw (proper_formed p, z) (ap total_is (total_counts 0 keys xs (proper_tidy p).ordered within ∙ same_count (at xs) told keys each))
