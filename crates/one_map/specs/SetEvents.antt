-- Histories of sets: what can happen to a set, as its functions answer, and the same event of a map whose values are 0.
use Rattle.std.specs.Prelude.{ℕ, List, [], ◌∷◌, ℤ, Err}
use Rattle.std.proofs.Math.Option.{Option}
use Rattle.answers.specs.Answers.{done}
use Rattle.answers.specs.Refusals.{number}
use Rattle.key.specs.Range.{Kind}
use Rattle.outcomes.specs.declared.Stored.{Stored}
use Rattle.outcomes.specs.Outcomes.{Edited, leaving, extended, lookup, clear, insert, remove, bulk_insert}
use Rattle.outcomes.specs.Sets.{if_set, pairs}
use Rattle.one_map.specs.Events.{Event, insert_event, remove_event, bulk_event, clear_event, value_of}

-- AN EVENT OF A SET: insert of a range, remove of a range, bulk insert of two lent lists of starts and ends, and clear. No set is read from bytes
pub data SetEvent : Type 0 where
  set_insert_event : ℤ → ℤ → SetEvent
  set_remove_event : ℤ → ℤ → SetEvent
  set_bulk_event : List ℤ → List ℤ → SetEvent
  set_clear_event : SetEvent

-- what an event answers, and the set that it leaves, accepted or refused
abbrev pub set_happens : Kind → SetEvent → Stored → Edited
set_happens kind (set_insert_event s e) m = if_set m (insert kind m s e 0) (λ why. leaving (number why) m)
set_happens kind (set_remove_event s e) m = if_set m (remove kind m s e) (λ why. leaving (number why) m)
set_happens kind (set_bulk_event ss es) m =
    let o = if_set m (bulk_insert kind m (pairs ss es)) (λ why. extended (record { answer = number why; applied = 0 }) m) in leaving o.told.answer o.left
set_happens kind set_clear_event m = leaving done (clear kind)

-- the set after some events
unfoldable pub after_set_events : Kind → List SetEvent → Stored → Stored
after_set_events kind [] m = m
after_set_events kind (x ∷ xs) m = after_set_events kind xs (set_happens kind x m).left

-- the same event of a map: the value is 0
abbrev pub of_map : (kind : Kind) → SetEvent → Event kind
of_map kind (set_insert_event s e) = insert_event s e 0
of_map kind (set_remove_event s e) = remove_event s e
of_map kind (set_bulk_event ss es) = bulk_event (pairs ss es)
of_map kind set_clear_event = clear_event

-- what a set's lookup tells of a key: 0 where it is covered, or none
abbrev pub set_value_at : Kind → Stored → ℤ → Option ℕ
set_value_at kind m k = value_of (if_set m (lookup kind m k) Err)
