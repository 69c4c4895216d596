-- HISTORIES OF SETS: a set stays a set, so its events are those of a map whose values are 0, and what is proved of histories of maps holds.
use Prim.Native.Nat.{ℕ, zero, suc}
use mathlib.Core.Path.{◌≡◌, refl, sym, ap, ◌∙◌}
use mathlib.Core.Bool.{true}
use mathlib.Core.List.{List, [], ◌∷◌, map}
use mathlib.Core.Option.{Option, some, none}
use lib.ListN.{take}
use lib.IntN.{ℤ}
use mir.Syntax.{w64}
use mir.Val.{SFits}
use Rattle.span.specs.Span.{at}
use Rattle.span.specs.Operations.{Plain}
use Rattle.span.proofs.Sets.{at_zero}
use Rattle.key.specs.Range.{Kind}
use Rattle.key.proofs.Lawful.{Lawful}
use Rattle.outcomes.specs.Stored.{places, ranges}
use Rattle.outcomes.specs.declared.Stored.{Stored}
use Rattle.outcomes.specs.Outcomes.{entry_change, Edited, insert, remove, clear, bulk_insert}
use Rattle.outcomes.specs.Sets.{plain, pairs}
use Rattle.outcomes.proofs.Formed.{all_noughts}
use Rattle.outcomes.proofs.Sets.{plain_ranges, plain_storing}
use Rattle.one_map.specs.Events.{Proper, value_at, happens, after_events, last_value, effect}
use Rattle.one_map.specs.SetEvents.{SetEvent, set_insert_event, set_remove_event, set_bulk_event, set_clear_event, set_happens, after_set_events, of_map, set_value_at}
use Rattle.one_map.proofs.OneMap.{clear_proper}
use Rattle.one_map.proofs.Histories.{event_proper, last_value_held, same_histories}
use Rattle.one_map.proofs.Values.{Gives, AllGive, Holds, event_values, accepted_gives, all_values}

-- the value of a set
abbrev IsZero : ℕ → Type 0
IsZero v = v ≡ 0

-- a set holds 0 or nothing
set_holds : (kind : Kind) (m : Stored) → plain m ≡ true → Holds IsZero kind m
set_holds kind m z k = go (at (ranges kind m) k) (at_zero (ranges kind m) k)
  where
    go : (o : Option ℕ) → ((v : ℕ) → Plain (ranges kind m) → o ≡ some v → v ≡ 0) → Gives IsZero o
    go none f = tt
    go (some v) f = f v (plain_ranges kind m z) refl

-- the entries of two lists of ranges have value 0
pairs_zero : (n : ℕ) (ss es : List ℤ) → AllGive IsZero (map entry_change (take n (pairs ss es)))
unfolding pairs
pairs_zero zero ss es = tt
pairs_zero (suc n) [] es = tt
pairs_zero (suc n) (s ∷ ss) [] = tt
pairs_zero (suc n) (s ∷ ss) (e ∷ es) = (refl, pairs_zero n ss es)

-- an event of a set gives 0 or nothing
event_zero : (kind : Kind) (x : SetEvent) (m : Stored) → AllGive IsZero (effect (of_map kind x) m).made
event_zero kind (set_insert_event s e) m = accepted_gives IsZero (insert kind m s e 0) _ (λ z. (refl, tt))
event_zero kind (set_remove_event s e) m = accepted_gives IsZero (remove kind m s e) _ (λ z. (tt, tt))
event_zero kind (set_bulk_event ss es) m = pairs_zero (bulk_insert kind m (pairs ss es)).told.applied ss es
event_zero kind set_clear_event m = tt

-- of a set, what happens is what happens to the map
pub set_as_map : (kind : Kind) (x : SetEvent) (m : Stored) → plain m ≡ true → set_happens kind x m ≡ happens (of_map kind x) m
set_as_map kind (set_insert_event s e) m z = rw z
set_as_map kind (set_remove_event s e) m z = rw z
set_as_map kind (set_bulk_event ss es) m z = rw z
set_as_map kind set_clear_event m z = refl

module _ {kind : Kind} (law : Lawful kind) where
  -- a new map is a set
  pub new_set : plain (clear kind) ≡ true
  unfolding clear
  new_set = plain_storing kind places [] tt

  -- A SET STAYS A SET, whatever happens
  pub set_stays : (x : SetEvent) {m : Stored} → Proper kind m → plain m ≡ true → plain (happens (of_map kind x) m).left ≡ true
  unfolding plain
  set_stays x {m} p z =
      let stays = event_values IsZero law (of_map kind x) p (event_zero kind x m) (set_holds kind m z) in
      all_noughts (happens (of_map kind x) m).left.values (all_values IsZero (event_proper law (of_map kind x) p) refl stays)

  -- so events of a set are the same events of a map
  pub sets_as_maps : (xs : List SetEvent) {m : Stored} → Proper kind m → plain m ≡ true
      → (after_set_events kind xs m ≡ after_events (map (of_map kind) xs) m) × (plain (after_set_events kind xs m) ≡ true)
  unfolding after_set_events after_events
  sets_as_maps [] p z = (refl, z)
  sets_as_maps (x ∷ xs) {m} p z =
      let is : (set_happens kind x m).left ≡ (happens (of_map kind x) m).left = ap (λ (o : Edited). o.left) (set_as_map kind x m z) in
      rw is (sets_as_maps xs (event_proper law (of_map kind x) p) (set_stays x p z))

  -- HISTORIES OF SETS: after any events from a new set, each key is covered exactly where the last event over it covered it
  pub set_last_value_held : (xs : List SetEvent) (k : ℤ)
      → set_value_at kind (after_set_events kind xs (clear kind)) k ≡ last_value (map (of_map kind) xs) (clear kind) k none
  set_last_value_held xs k =
      let (is, z) = sets_as_maps xs (clear_proper law) new_set in
      rw z (ap (λ (m : Stored). value_at kind m k) is ∙ last_value_held law (map (of_map kind) xs) k)

  -- and two histories that agree at every key leave the same stored set, unused places included
  pub same_set_histories : (xs ys : List SetEvent)
      → ((k : ℤ) → SFits w64 k → last_value (map (of_map kind) xs) (clear kind) k none ≡ last_value (map (of_map kind) ys) (clear kind) k none)
      → after_set_events kind xs (clear kind) ≡ after_set_events kind ys (clear kind)
  same_set_histories xs ys e =
      let new = clear_proper law in
      (sets_as_maps xs new new_set).0 ∙ same_histories law (map (of_map kind) xs) (map (of_map kind) ys) e ∙ sym (sets_as_maps ys new new_set).0
