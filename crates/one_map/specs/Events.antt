-- Histories in document 01's words: what can happen to a map, what each event leaves, and the last value that a key was given.
-- What a map holds is said by what its lookup answers at keys.
use Rattle.std.specs.Prelude.{ℕ, ◌<◌, ◌≡◌, Bool, true, false, cond, List, [], ◌∷◌, map, eqb, length, take, ℤ, Ok, Err, Some, None}
use Rattle.std.proofs.Math.Option.{Option, some, none}
use Rattle.answers.specs.Answers.{done}
use Rattle.span.specs.Span.{inside, last}
use Rattle.key.specs.Rank.{rank}
use Rattle.key.specs.Range.{Kind, half_open}
use Rattle.key.specs.declared.Entry.{Entry}
use Rattle.outcomes.specs.Stored.{places, AllFit, Sound}
use Rattle.outcomes.specs.declared.Stored.{Stored}
use Rattle.outcomes.specs.Outcomes.{entry_change, Edited, leaving, Change, lookup, clear, insert, remove, bulk_insert, span_edits}
use Rattle.outcomes.specs.Answered.{Found}
use Rattle.byte_form.specs.Layout.{rm01}
use Rattle.byte_form.specs.Bytes.{Bytes}
use Rattle.byte_form.specs.Form.{entries_of, map_in, read}

-- a well-formed map with all its places, its keys i64
pub record Proper (kind : Kind) (m : Stored) : Type 0 where
  pub sound : Sound kind m
  pub all_places : length m.starts ≡ places

-- a map as memory holds it: all places, keys that are i64 and values that are u8
pub record InMemory (m : Stored) : Type 0 where
  pub starts_all : length m.starts ≡ places
  pub ends_all : length m.ends ≡ places
  pub values_all : length m.values ≡ places
  pub starts_fit : AllFit m.starts
  pub ends_fit : AllFit m.ends
  pub values_fit : Bytes m.values

-- what the answer of a lookup tells of its key: the value that is held there, or none
abbrev pub value_of : Found → Option ℕ
value_of (Ok (Some x)) = some x.value
value_of (Ok None) = none
value_of (Err why) = none

-- the value that a map holds at a key, as its lookup answers
abbrev pub value_at : Kind → Stored → ℤ → Option ℕ
value_at kind m k = value_of (lookup kind m k)

-- is the key in the range from s to e
abbrev pub in_range : Kind → ℤ → ℤ → ℤ → Bool
in_range kind s e k = inside (rank s) (kind.past e) (rank k)

-- AN EVENT: insert of a range and a value, remove of a range, bulk insert of a list, clear, and read of bytes, which half-open maps alone have
pub data Event (kind : Kind) : Type 0 where
  insert_event : ℤ → ℤ → ℕ → Event kind
  remove_event : ℤ → ℤ → Event kind
  bulk_event : List Entry → Event kind
  clear_event : Event kind
  read_event : kind ≡ half_open → List ℕ → Event kind

-- the values of a list's entries are u8
abbrev pub EntriesU8 : List Entry → Type 0
EntriesU8 [] = Unit {0}
EntriesU8 (x ∷ xs) = (x.value < 256) × EntriesU8 xs

-- the values of an event are u8, as its function takes them
abbrev pub ValuesU8 : {kind : Kind} → Event kind → Type 0
ValuesU8 (insert_event s e v) = v < 256
ValuesU8 (remove_event s e) = Unit {0}
ValuesU8 (bulk_event xs) = EntriesU8 xs
ValuesU8 clear_event = Unit {0}
ValuesU8 (read_event is bs) = Bytes bs

-- those of all events are
abbrev pub AllU8 : {kind : Kind} → List (Event kind) → Type 0
AllU8 [] = Unit {0}
AllU8 (x ∷ xs) = ValuesU8 x × AllU8 xs

-- what an event answers, and the map that it leaves, accepted or refused
abbrev pub happens : {kind : Kind} → Event kind → Stored → Edited
happens {kind} (insert_event s e v) m = insert kind m s e v
happens {kind} (remove_event s e) m = remove kind m s e
happens {kind} (bulk_event xs) m = leaving (bulk_insert kind m xs).told.answer (bulk_insert kind m xs).left
happens {kind} clear_event m = leaving done (clear kind)
happens {kind} (read_event is bs) m = read rm01 m bs

-- the map after some events
unfoldable pub after_events : {kind : Kind} → List (Event kind) → Stored → Stored
after_events [] m = m
after_events (x ∷ xs) m = after_events xs (happens x m).left

-- what an event did: is all that was held before gone, and which changes were made then, in order
pub record Effect : Type 0 where
  pub fresh : Bool
  pub made : List Change

-- changes of what was held
abbrev pub changed : List Change → Effect
changed cs = record { fresh = false; made = cs }

-- changes from nothing
abbrev pub anew : List Change → Effect
anew cs = record { fresh = true; made = cs }

-- what was accepted did so, and what was refused did nothing
abbrev pub if_accepted : Edited → Effect → Effect
if_accepted o x = cond (eqb o.answer 0) x (changed [])

-- WHAT AN EVENT DID. Of a bulk insert the entries that were applied stay, refused or not; a read puts the ranges in its bytes in place of all that was held
abbrev pub effect : {kind : Kind} → Event kind → Stored → Effect
effect {kind} (insert_event s e v) m = if_accepted (insert kind m s e v) (changed (record { start = s; end = e; new = some v } ∷ []))
effect {kind} (remove_event s e) m = if_accepted (remove kind m s e) (changed (record { start = s; end = e; new = none } ∷ []))
effect {kind} (bulk_event xs) m = changed (map entry_change (take (bulk_insert kind m xs).told.applied xs))
effect {kind} clear_event m = anew []
effect {kind} (read_event is bs) m = if_accepted (read rm01 m bs) (anew (map entry_change (entries_of (map_in rm01 bs))))

-- what an effect leaves at a key where old was held: what the last change over the key gives, or else old, unless all that was held is gone
unfoldable pub left_at : Kind → Effect → ℤ → Option ℕ → Option ℕ
left_at kind x k old = last (span_edits kind x.made) (rank k) (cond x.fresh none old)

-- THE LAST VALUE that some events, in order, gave a key, or none; and old where they did not touch it
unfoldable pub last_value : {kind : Kind} → List (Event kind) → Stored → ℤ → Option ℕ → Option ℕ
last_value [] m k old = old
last_value {kind} (x ∷ xs) m k old = last_value xs (happens x m).left k (left_at kind (effect x m) k old)
