-- A WELL-FORMED MAP IS KNOWN by what its lookup answers at keys: all its places follow from that.
use Prim.Native.Nat.compare
use Prim.Native.Nat.{ℕ, suc, ◌≤◌}
use native.Mathlib.Omega.{arith}
use native.Mathlib.Decide.{dec_lt}
use mathlib.Core.Path.{◌≡◌, refl, sym, ap, ◌∙◌}
use mathlib.Core.Bool.{Bool, true, false, cond}
use mathlib.Core.List.{List, [], ◌∷◌}
use mathlib.Core.Option.{Option, some, none}
use borrow.Author.Tests.{lt-ltb, le-ltb}
use lib.Dec.{ltb}
use lib.ListN.{length, get_or, take}
use lib.IntN.{ℤ, pos}
use mir.Syntax.{w64}
use mir.Val.{SFits}
use Rattle.std.specs.Prelude.{Ok, Err, Some, None}
use Rattle.span.specs.Span.{Span, span, inside, at, Tidy}
use Rattle.span.specs.Operations.{holds}
use Rattle.span.proofs.Holding.{at_upto}
use Rattle.span.proofs.Laws.{never, the_only_one}
use Rattle.key.specs.Rank.{rank, keys, key_at}
use Rattle.key.specs.Range.{Kind}
use Rattle.key.proofs.Laws.{key_fits, rank_key}
use Rattle.key.proofs.Lawful.{Lawful}
use Rattle.outcomes.specs.Stored.{places, spans, ranges, storing, well_formed}
use Rattle.outcomes.specs.declared.Stored.{Stored}
use Rattle.outcomes.specs.Numbers as Numbers
use Rattle.outcomes.specs.Outcomes.{first_place, range_at_sound, lookup_sound, lookup}
use Rattle.outcomes.specs.Answered.{Found, entry}
use Rattle.outcomes.proofs.Formed.{formed, shape, good, length_ranges, get_or_ranges}
use Rattle.outcomes.proofs.Storing.{map_take, starts_back, ends_back, values_back, upto_ranges}
use Rattle.byte_form.proofs.Entries.{sound_formed, filled_take}
use Rattle.one_map.specs.Events.{Proper, value_of, value_at}

-- a lookup that tells a value answers 0, with that value
pub some_found : (a : Found) {v : ℕ} → value_of a ≡ some v → ((Numbers.found_in_c a).answer ≡ 0) × ((Numbers.found_in_c a).value ≡ v)
some_found (Ok (Some x)) h = (refl, cc)
some_found (Ok None) h = absurd (never h)
some_found (Err why) h = absurd (never h)

-- the label at a place, and none past the last
abbrev label_at : List Span → ℕ → Option ℕ
label_at xs i = cond (ltb i (length xs)) (some (get_or xs i (span 0 0 0)).label) none

-- what a list holds at an instant is the label of the first span that has it
first_at : (k : ℕ) (xs : List Span) → at xs k ≡ label_at xs (first_place (holds k) xs)
unfolding at first_place holds
first_at k [] = refl
first_at k (x ∷ xs) = go (inside x.lo x.hi k) (first_at k xs)
  where
    go : (t : Bool) → at xs k ≡ label_at xs (first_place (holds k) xs)
        → cond t (some x.label) (at xs k) ≡ label_at (x ∷ xs) (cond t 0 (suc (first_place (holds k) xs)))
    go true ih = rw (lt-ltb 0 (suc (length xs)) (omega arith))
    go false ih = rw compare.suc-suc ih

module _ {kind : Kind} {m : Stored} (p : Proper kind m) where
  -- it is as a lent map must be
  pub proper_formed : well_formed kind places m ≡ true
  proper_formed = sound_formed p.sound p.all_places

  -- its ranges are tidy
  pub proper_tidy : Tidy 0 (ranges kind m)
  proper_tidy = (good p.sound).tidy

  -- so its lookup is never refused with 4
  pub lookup_found : (k : ℤ) → lookup kind m k ≡ lookup_sound kind m k
  unfolding lookup
  lookup_found k = rw proper_formed

  many : length (ranges kind m) ≡ m.count
  many = length_ranges kind (length m.starts) m (shape p.sound) (good p.sound).held

  -- the value at a place is that of the range there
  value_placed : (i : ℕ) → value_of (range_at_sound m i) ≡ label_at (ranges kind m) i
  unfolding range_at_sound
  value_placed i = rw many (elim (dec_lt i m.count) [
    | yes q ↦
        let is = get_or_ranges kind (length m.starts) m (shape p.sound) (good p.sound).held i (span 0 0 0) q in
        rw (lt-ltb i m.count q) (ap (λ (x : Span). some x.label) (sym is))
    | no q ↦ rw (le-ltb i m.count (omega arith))
  ])

  -- what lookup tells of a key is what the ranges hold there
  pub value_at_lem : (k : ℤ) → value_at kind m k ≡ at (ranges kind m) (rank k)
  unfolding lookup_sound
  value_at_lem k = ap value_of (lookup_found k) ∙ value_placed (first_place (holds (rank k)) (ranges kind m)) ∙ sym (first_at (rank k) (ranges kind m))

  placed_none : (i : ℕ) → value_of (range_at_sound m i) ≡ none → range_at_sound m i ≡ Ok None
  unfolding range_at_sound
  placed_none i = go (ltb i m.count)
    where
      there : Found
      there = Ok (Some (entry (get_or m.starts i (pos 0)) (get_or m.ends i (pos 0)) (get_or m.values i 0)))

      go : (t : Bool) → value_of (cond t there (Ok None)) ≡ none → cond t there (Ok None) ≡ Ok None
      go true e = absurd (never (sym e))
      go false e = refl

  -- where nothing is held, the lookup answers 5
  pub none_found : (k : ℤ) → value_at kind m k ≡ none → lookup kind m k ≡ Ok None
  unfolding lookup_sound
  none_found k e = lookup_found k ∙ placed_none (first_place (holds (rank k)) (ranges kind m)) (ap value_of (sym (lookup_found k)) ∙ e)

module _ {kind : Kind} (law : Lawful kind) where
  -- the map that stores the ranges of a proper map is that map
  pub stored_again : {m : Stored} → Proper kind m → storing kind places (ranges kind m) ≡ m
  unfolding storing ranges
  stored_again {m} p =
      let g = formed kind places m (proper_formed p) in
      let all : List Span = spans kind m.starts m.ends m.values in
      let n : length (take m.count all) ≡ m.count = many p in
      rw (
        n,
        map_take (λ (x : Span). key_at x.lo) m.count all,
        map_take (λ (x : Span). kind.ending x.hi) m.count all,
        map_take (λ (x : Span). x.label) m.count all,
        starts_back kind m.starts m.ends m.values p.sound.ends_as p.sound.values_as p.sound.starts_fit,
        ends_back kind law m.starts m.ends m.values p.sound.ends_as p.sound.values_as p.sound.ends_fit,
        values_back kind m.starts m.ends m.values p.sound.ends_as p.sound.values_as,
        filled_take places m.count (pos 0) m.starts p.all_places g.held g.starts,
        filled_take places m.count (pos 0) m.ends (p.sound.ends_as ∙ p.all_places) g.held g.ends,
        filled_take places m.count 0 m.values (p.sound.values_as ∙ p.all_places) g.held g.values,
      )

  -- no map holds anything past the last key
  past_keys : (m : Stored) (k : ℕ) → keys ≤ k → at (ranges kind m) k ≡ none
  past_keys m k h = at_upto law.limit (ranges kind m) k (upto_ranges kind law m) (omega (arith, law.limit_keys))

  -- what is told of every key is told of every instant
  pub each_instant : {m : Stored} → Proper kind m → (f : ℕ → Option ℕ) → ((k : ℕ) → keys ≤ k → f k ≡ none)
      → ((k : ℤ) → SFits w64 k → value_at kind m k ≡ f (rank k)) → (k : ℕ) → at (ranges kind m) k ≡ f k
  each_instant {m} p f none_past told k = elim (dec_lt k keys) [
    | yes h ↦ ap (at (ranges kind m)) (sym (rank_key k h)) ∙ sym (value_at_lem p (key_at k)) ∙ told (key_at k) (key_fits k h) ∙ ap f (rank_key k h)
    | no h ↦ past_keys m k (omega arith) ∙ sym (none_past k (omega arith))
  ]

  module _ {a b : Stored} (p : Proper kind a) (q : Proper kind b) where
    -- of two proper maps that hold the same ranges
    pub same_ranges : ranges kind a ≡ ranges kind b → a ≡ b
    same_ranges e = sym (stored_again p) ∙ ap (storing kind places) e ∙ stored_again q

    -- THE ONE MAP: well-formed maps that tell the same of every key are equal, all places included
    pub same_lookups : ((k : ℤ) → SFits w64 k → value_at kind a k ≡ value_at kind b k) → a ≡ b
    same_lookups e =
        same_ranges (the_only_one (ranges kind a) (ranges kind b) (proper_tidy p) (proper_tidy q)
        (each_instant p (at (ranges kind b)) (past_keys b) (λ k fit. e k fit ∙ value_at_lem q k)))
