-- BULK INSERT stops at the first refusal: where it stops, and with which number.
use Prim.Native.Nat.{ℕ, suc, ◌+◌, ◌<◌}
use native.Mathlib.Omega.{arith}
use mathlib.Core.Path.{◌≡◌, refl, ap}
use mathlib.Core.Bool.{Bool, true, false, cond}
use mathlib.Core.List.{List, [], ◌∷◌}
use mathlib.Core.Option.{some}
use borrow.Author.Tests.{eqb-false}
use lib.Dec.{eqb}
use lib.ListN.{length, get_or}
use lib.IntN.{pos}
use Rattle.key.specs.Range.{Kind}
use Rattle.key.specs.declared.Entry.{Entry}
use Rattle.key.proofs.Lawful.{Lawful}
use Rattle.outcomes.specs.Stored.{places}
use Rattle.outcomes.specs.declared.Stored.{Stored}
use Rattle.outcomes.specs.Outcomes.{Edited, Extended, extended, edit_sound, bulk_insert_sound, edit, insert, bulk_insert}
use Rattle.one_map.specs.Events.{Proper, bulk_event}
use Rattle.one_map.proofs.Known.{proper_formed}
use Rattle.one_map.proofs.Histories.{event_proper}

-- the entry at a place of a list
abbrev pub entry_at : List Entry → ℕ → Entry
entry_at xs i = get_or xs i (record { start = pos 0; end = pos 0; value = 0 })

module _ (kind : Kind) where
  -- what an unchecked insert of an entry answers
  abbrev alone : Stored → Entry → Edited
  alone m x = edit_sound kind places m x.start x.end (some x.value)

  -- n entries were applied before, and then so many of the list: all of it, or as many as stand before the first that is refused
  record Stops (n : ℕ) (xs : List Entry) (r : Extended) : Type 0 where
    taken : ℕ
    applied_is : r.told.applied ≡ n + taken
    whole : r.told.answer ≡ 0 → taken ≡ length xs
    part : (r.told.answer ≡ 0 → ⊥) → taken < length xs
    number : (r.told.answer ≡ 0 → ⊥) → (alone r.left (entry_at xs taken)).answer ≡ r.told.answer

  stops : (m : Stored) (n : ℕ) (xs : List Entry) → Stops n xs (bulk_insert_sound kind m n xs)
  unfolding bulk_insert_sound
  stops m n [] = record { taken = 0; applied_is = omega arith; whole = λ z. refl; part = λ f. absurd (f refl); number = λ f. absurd (f refl) }
  stops m n (x ∷ xs) = go (eqb (alone m x).answer 0) refl (stops (alone m x).left (suc n) xs)
    where
      go : (t : Bool) → eqb (alone m x).answer 0 ≡ t → Stops (suc n) xs (bulk_insert_sound kind (alone m x).left (suc n) xs)
          → Stops n (x ∷ xs) (cond t (bulk_insert_sound kind (alone m x).left (suc n) xs) (extended (record { answer = (alone m x).answer; applied = n }) m))
      go true e r = record {
        taken = suc r.taken;
        applied_is = omega (arith, r.applied_is);
        whole = λ z. ap suc (r.whole z);
        part = λ f. omega (arith, r.part f);
        number = r.number;
      }
      go false e r = record {
        taken = 0;
        applied_is = omega arith;
        whole = λ z. absurd (eqb-false (alone m x).answer 0 e z);
        part = λ f. omega arith;
        number = λ f. refl;
      }

module _ {kind : Kind} (law : Lawful kind) {m : Stored} (p : Proper kind m) (xs : List Entry) where
  abbrev told : Extended
  told = bulk_insert kind m xs

  stop : Stops kind 0 xs told
  unfolding bulk_insert
  stop = rw (proper_formed p) (stops kind m 0 xs)

  -- a list that is accepted is applied as a whole
  pub bulk_whole : told.told.answer ≡ 0 → told.told.applied ≡ length xs
  bulk_whole z = omega (arith, stop.applied_is, stop.whole z)

  -- one that is refused stops before its end
  pub bulk_part : (told.told.answer ≡ 0 → ⊥) → told.told.applied < length xs
  bulk_part f = omega (arith, stop.applied_is, stop.part f)

  -- at the first entry whose insert into the map that is left is refused, and with the number of that insert
  pub bulk_number : (told.told.answer ≡ 0 → ⊥)
      → let x = entry_at xs told.told.applied in (insert kind told.left x.start x.end x.value).answer ≡ told.told.answer
  unfolding edit
  bulk_number f =
      let at : told.told.applied ≡ stop.taken = omega (arith, stop.applied_is) in
      rw (proper_formed (event_proper law (bulk_event xs) p), at) (stop.number f)
