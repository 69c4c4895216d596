-- WHAT EVENTS LEAVE IN MEMORY: a map whose values are u8, if theirs are. And what any history leaves is written and read back.
use Prim.Native.Nat.{ℕ, zero, suc, ◌<◌}
use native.Mathlib.Omega.{arith}
use mathlib.Core.Path.{◌≡◌, sym, subst, ◌∙◌}
use mathlib.Core.List.{List, [], ◌∷◌, map}
use lib.ListN.{take}
use lib.IntN.{ℤ}
use Rattle.answers.specs.Answers.{done}
use Rattle.span.specs.Span.{Span, at}
use Rattle.key.specs.Range.{Kind, half_open}
use Rattle.key.specs.declared.Entry.{Entry}
use Rattle.key.proofs.Lawful.{Lawful, half_open_lawful}
use Rattle.outcomes.specs.declared.Stored.{Stored}
use Rattle.outcomes.specs.Outcomes.{entry_change, entries, leaving, clear, insert, remove, bulk_insert}
use Rattle.outcomes.proofs.Edits.{ranges_cleared}
use Rattle.byte_form.specs.Bytes.{Bytes}
use Rattle.byte_form.specs.Layout.{rm01}
use Rattle.byte_form.specs.Form.{entries_of, form_of, map_in, read}
use Rattle.byte_form.proofs.Lawful.{rm01_lawful}
use Rattle.byte_form.proofs.Forms.{write_read, map_values}
use Rattle.one_map.specs.Events.{Proper, InMemory, Event, insert_event, remove_event, bulk_event, clear_event, read_event, after_events, effect}
use Rattle.one_map.specs.Events.{EntriesU8, ValuesU8, AllU8}
use Rattle.one_map.proofs.OneMap.{clear_proper}
use Rattle.one_map.proofs.Histories.{event_proper, events_proper}
use Rattle.one_map.proofs.Values.{Gives, AllGive, Holds, event_values, accepted_gives, all_values}

abbrev IsU8 : ℕ → Type 0
IsU8 v = v < 256

-- the first entries of a list
entries_u8 : (n : ℕ) (xs : List Entry) → EntriesU8 xs → AllGive IsU8 (map entry_change (take n xs))
entries_u8 zero xs u = tt
entries_u8 (suc n) [] u = tt
entries_u8 (suc n) (x ∷ xs) u = (u.0, entries_u8 n xs u.1)

-- the entries of a map whose values are u8
map_u8 : (n : ℕ) (ss es : List ℤ) (vs : List ℕ) → Bytes vs → AllGive IsU8 (map entry_change (take n (entries ss es vs)))
unfolding entries
map_u8 zero ss es vs h = tt
map_u8 (suc n) [] es vs h = tt
map_u8 (suc n) (s ∷ ss) [] vs h = tt
map_u8 (suc n) (s ∷ ss) (e ∷ es) [] h = tt
map_u8 (suc n) (s ∷ ss) (e ∷ es) (v ∷ vs) h = (h 0, map_u8 n ss es vs (λ k. h (suc k)))

read_u8 : (m : Stored) → Bytes m.values → AllGive IsU8 (map entry_change (entries_of m))
unfolding entries_of
read_u8 m = map_u8 m.count m.starts m.ends m.values

event_u8 : {kind : Kind} (x : Event kind) (m : Stored) → ValuesU8 x → AllGive IsU8 (effect x m).made
event_u8 {kind} (insert_event s e v) m u = accepted_gives IsU8 (insert kind m s e v) _ (λ z. (u, tt))
event_u8 {kind} (remove_event s e) m u = accepted_gives IsU8 (remove kind m s e) _ (λ z. (tt, tt))
event_u8 {kind} (bulk_event xs) m u = entries_u8 (bulk_insert kind m xs).told.applied xs u
event_u8 clear_event m u = tt
event_u8 (read_event is bs) m u = accepted_gives IsU8 (read rm01 m bs) _ (λ z. read_u8 (map_in rm01 bs) (map_values rm01_lawful bs u))

module _ {kind : Kind} (law : Lawful kind) where
  events_u8 : (xs : List (Event kind)) {m : Stored} → Proper kind m → AllU8 xs → Holds IsU8 kind m → Holds IsU8 kind (after_events xs m)
  unfolding after_events
  events_u8 [] p u h = h
  events_u8 (x ∷ xs) {m} p u h = events_u8 xs (event_proper law x p) u.1 (event_values IsU8 law x p (event_u8 x m u.0) h)

  new_u8 : Holds IsU8 kind (clear kind)
  unfolding at
  new_u8 k = subst (λ (xs : List Span). Gives IsU8 (at xs k)) (sym (ranges_cleared kind law)) tt

  -- a well-formed map whose values are u8 is one as memory holds it
  proper_memory : {m : Stored} → Proper kind m → Holds IsU8 kind m → InMemory m
  proper_memory p h = record {
    starts_all = p.all_places;
    ends_all = p.sound.ends_as ∙ p.all_places;
    values_all = p.sound.values_as ∙ p.all_places;
    starts_fit = p.sound.starts_fit;
    ends_fit = p.sound.ends_fit;
    values_fit = all_values IsU8 p (omega arith) h;
  }

  -- any events from a new map leave a map as memory holds it
  pub history_memory : (xs : List (Event kind)) → AllU8 xs → InMemory (after_events xs (clear kind))
  history_memory xs u = proper_memory (events_proper law xs (clear_proper law)) (events_u8 xs (clear_proper law) u new_u8)

-- WRITTEN AND READ BACK: what any events leave of a half-open map is read from its written form, whatever map is overwritten
pub history_read_back : (xs : List (Event half_open)) (old : Stored)
    → read rm01 old (form_of rm01 (after_events xs (clear half_open))) ≡ leaving done (after_events xs (clear half_open))
history_read_back xs old = let p = events_proper half_open_lawful xs (clear_proper half_open_lawful) in write_read rm01_lawful old p.sound p.all_places
