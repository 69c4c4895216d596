-- WRONG ANSWERS: no function that meets insert's or remove's promise always answers one number (2, 4, 5 or any other), or leaves its map untouched; none that
-- meets the report's calls every day unrecorded; none that meets the reader's always answers 6; none that meets the query's always answers 7.
-- Each is told of inputs that a caller can give, and so of any function in memory.
use Prim.Native.Nat.{ℕ, zero, suc, ◌+◌}
use native.Mathlib.Omega.{arith}
use mathlib.Core.Path.{◌≡◌, refl, sym, ap, ◌∙◌}
use mathlib.Core.Bool.{Bool, true, false, ◌&&◌}
use mathlib.Core.List.{List, [], ◌∷◌}
use mathlib.Core.Option.{some, none}
use borrow.Author.Tests.{ltb-true}
use lib.Dec.{ltb}
use lib.IntN.{ℤ, pos}
use mir.Syntax.{w64}
use mir.Val.{SFits}
use mir.Facts.{sfits_lit}
use Rattle.std.specs.Prelude.{Ok}
use Rattle.answers.specs.Answers.{done}
use Rattle.answers.specs.Refusals.{number}
use Rattle.span.specs.Span.{inside, at, keep, before, after, joins, tidy, push, joined, given, history}
use Rattle.span.specs.Labels.{relabelled}
use Rattle.span.specs.Operations.{puts, cuts, uncovered, laid_over, within, common_parts, common, chosen}
use Rattle.span.proofs.Tests.{both}
use Rattle.key.specs.Rank.{above_least, bit_rank, key_at}
use Rattle.key.specs.Range.{Kind, half_open, inclusive}
use Rattle.key.proofs.Lawful.{Lawful, half_open_lawful, inclusive_too}
use Rattle.outcomes.specs.Stored.{places, Sound, spans, ranges, filled, storing, zeros, noughts, unused, well_formed}
use Rattle.outcomes.specs.declared.Stored.{Stored}
use Rattle.outcomes.specs.Numbers.{asked_in_c, counted_in_c}
use Rattle.outcomes.specs.Outcomes.{entries, Written, into_lists, Edited, leaving, edit_sound, edit, insert, remove, clear}
use Rattle.key.specs.declared.Entry.{Entry}
use Rattle.outcomes.specs.Sets.{plain, if_set}
use Rattle.outcomes.specs.declared.Count.{Count}
use Rattle.outcomes.specs.declared.Told.{Told}
use Rattle.byte_form.specs.Layout.{rm01}
use Rattle.byte_form.specs.Bytes.{bytes_of, range_bytes, Bytes}
use Rattle.byte_form.specs.Form.{entries_of, ranges_bytes, form_of, read}
use Rattle.one_map.specs.Events.{InMemory, Event, insert_event, after_events}
use Rattle.one_map.proofs.OneMap.{clear_proper}
use Rattle.one_map.proofs.Histories.{event_proper}
use Rattle.one_map.proofs.Memory.{history_memory, history_read_back}
use Rattle.map.specs.declared.RangeMap.{RangeMap}
use Rattle.map.specs.Map as Map
use Rattle.map.specs.Promises.{RangeMapInsert, RangeMapRemove, RangeMapInsertUnchecked, RangeMapRemoveUnchecked}
use Rattle.inclusive_map.specs.Map as InclusiveMap
use Rattle.inclusive_map.specs.Promises.{RangeInclusiveMapInsert, RangeInclusiveMapRemove}
use Rattle.inclusive_map.specs.Promises.{RangeInclusiveMapInsertUnchecked, RangeInclusiveMapRemoveUnchecked}
use Rattle.set.specs.Set as Set
use Rattle.set.specs.Promises.{RangeSetInsert, RangeSetRemove}
use Rattle.inclusive_set.specs.Set as InclusiveSet
use Rattle.inclusive_set.specs.Promises.{RangeInclusiveSetInsert, RangeInclusiveSetRemove}
use Rattle.map_bytes.specs.Promises.{RangeMapRead}
use Rattle.report.specs.declared.DayReport.{DayReport}
use Rattle.report.proofs.Cases.{november_report}
use Rattle.map_report.specs.Promises.{RangeMapDayReport}
use Rattle.query_text.specs.Meaning.{truth}
use Rattle.query_text.specs.Reader.{query_of, read_level, read_steps, digit_then, atom, closed}
use Rattle.query.specs.Result.{result, is_true}
use Rattle.query.specs.Answers.{query_ranges_sound, query_at_sound, query_ranges, query_at}
use Rattle.query.proofs.QueryCases.{Reply}
use Rattle.map_query.specs.Promises.{RangeMapQuery, RangeMapQueryAt}
use Rattle.theorems.proofs.Histories.{range_map_of, range_inclusive_map_of, range_set_of, range_inclusive_set_of}
use Rattle.theorems.specs.Shortcuts.{NoShortcut, EntryInput, BoundsInput}
use Rattle.theorems.specs.Inputs.{DateInput, BytesInput, QueryInput, ListsInput}

-- `unfolding of_maps` and `unfolding of_queries` open every definition that a case computes with
unfoldable of_spans : Unit {0}
unfolding inside at keep before after joins tidy push joined given history puts cuts uncovered laid_over within common_parts common relabelled chosen
of_spans = tt

unfoldable of_maps : Unit {0}
unfolding of_spans above_least bit_rank key_at spans ranges filled storing zeros noughts unused well_formed edit_sound edit clear plain
of_maps = tt

unfoldable of_queries : Unit {0}
unfolding of_maps into_lists truth query_of read_level read_steps digit_then atom closed result is_true query_ranges_sound query_at_sound query_ranges query_at
of_queries = tt

-- a new map, and the map that an insert into it leaves, as memory holds them
abbrev one : Kind → Stored
one kind = (insert kind (clear kind) (pos 0) (pos 8) 0).left

new_memory : {kind : Kind} → Lawful kind → InMemory (clear kind)
unfolding after_events
new_memory law = history_memory law [] tt

one_memory : {kind : Kind} → Lawful kind → InMemory (one kind)
unfolding after_events
one_memory law = history_memory law (insert_event (pos 0) (pos 8) 0 ∷ []) (omega arith, tt)

-- and what an unchecked door requires
one_sound : {kind : Kind} → Lawful kind → Sound kind (one kind)
one_sound law = (event_proper law (insert_event (pos 0) (pos 8) 0) (clear_proper law)).sound

-- insert and remove of a set
abbrev set_insert : Kind → Stored → ℤ → ℤ → Edited
set_insert kind m s e = if_set m (insert kind m s e 0) (λ why. leaving (number why) m)

abbrev set_remove : Kind → Stored → ℤ → ℤ → Edited
set_remove kind m s e = if_set m (remove kind m s e) (λ why. leaving (number why) m)

-- AN EDIT, tried on a map: 0..8 is taken, and leaves another map; 8..0 is refused with 1
record Tried {A : Type 0} (args : ℤ → ℤ → A) (does : Stored → A → Edited) (m : Stored) : Type 0 where
  taken : (does m (args (pos 0) (pos 8))).answer ≡ 0
  reversed : (does m (args (pos 8) (pos 0))).answer ≡ 1
  other : (does m (args (pos 0) (pos 8))).left.count ≡ m.count → ⊥

-- THE LAW, for any struct and any edit that a caller can give these ranges
no_shortcut : {S A : Type 0} {Input : S → A → Type 0} (held : S → Stored) (args : ℤ → ℤ → A) {does : Stored → A → Edited} (m : S)
    → ((s e : ℤ) → SFits w64 s → SFits w64 e → Input m (args s e)) → Tried args does (held m)
    → NoShortcut Input (λ a m m' r. leaving r (held m') ≡ does (held m) a)
no_shortcut {S} {A} {Input} held args {does} m can t = record {
  not_always = λ f meets n always.
      let zero_is : n ≡ 0 = sym (always m forth taken) ∙ ap (λ (o : Edited). o.answer) (meets m forth taken) ∙ t.taken in
      let one_is : n ≡ 1 = sym (always m back refused) ∙ ap (λ (o : Edited). o.answer) (meets m back refused) ∙ t.reversed in
      omega arith;
  not_untouched = λ f meets untouched.
      t.other (ap (λ (o : Edited). o.left.count) (sym (meets m forth taken)) ∙ ap (λ (n : S). (held n).count) (untouched m forth taken));
}
  where
    forth : A
    forth = args (pos 0) (pos 8)

    back : A
    back = args (pos 8) (pos 0)

    taken : Input m forth
    taken = can (pos 0) (pos 8) (sfits_lit tt) (sfits_lit tt)

    refused : Input m back
    refused = can (pos 8) (pos 0) (sfits_lit tt) (sfits_lit tt)

-- the arguments of an insert, and of an edit that takes a range alone
abbrev entry : ℤ → ℤ → Entry
entry s e = record { start = s; end = e; value = 0 }

abbrev bounds : ℤ → ℤ → ℤ × ℤ
bounds s e = (s, e)

-- INSERT and REMOVE of maps and of sets, of any map and of a sound one, tried; by computation, for each kind
record TriedEdits (kind : Kind) : Type 0 where
  insert_tried : Tried entry (λ m a. insert kind m a.start a.end a.value) (clear kind)
  remove_tried : Tried bounds (λ m a. remove kind m a.0 a.1) (one kind)
  sound_insert_tried : Tried entry (λ m a. edit_sound kind places m a.start a.end (some a.value)) (clear kind)
  sound_remove_tried : Tried bounds (λ m a. edit_sound kind places m a.0 a.1 none) (one kind)
  set_insert_tried : Tried bounds (λ m a. set_insert kind m a.0 a.1) (clear kind)
  set_remove_tried : Tried bounds (λ m a. set_remove kind m a.0 a.1) (one kind)

half_open_tried : TriedEdits half_open
unfolding of_maps
half_open_tried = record {
  insert_tried = record { taken = refl; reversed = refl; other = λ h. omega arith };
  remove_tried = record { taken = refl; reversed = refl; other = λ h. omega arith };
  sound_insert_tried = record { taken = refl; reversed = refl; other = λ h. omega arith };
  sound_remove_tried = record { taken = refl; reversed = refl; other = λ h. omega arith };
  set_insert_tried = record { taken = refl; reversed = refl; other = λ h. omega arith };
  set_remove_tried = record { taken = refl; reversed = refl; other = λ h. omega arith };
}

inclusive_tried : TriedEdits inclusive
unfolding of_maps
inclusive_tried = record {
  insert_tried = record { taken = refl; reversed = refl; other = λ h. omega arith };
  remove_tried = record { taken = refl; reversed = refl; other = λ h. omega arith };
  sound_insert_tried = record { taken = refl; reversed = refl; other = λ h. omega arith };
  sound_remove_tried = record { taken = refl; reversed = refl; other = λ h. omega arith };
  set_insert_tried = record { taken = refl; reversed = refl; other = λ h. omega arith };
  set_remove_tried = record { taken = refl; reversed = refl; other = λ h. omega arith };
}

-- THE HALF-OPEN MAP, through either door
pub range_map_insert_no_shortcut : NoShortcut (λ m a. EntryInput (Map.held m) a) (λ a m m' r. RangeMapInsert m m' a.start a.end a.value r)
range_map_insert_no_shortcut =
    no_shortcut Map.held entry (range_map_of (clear half_open)) (λ s e x y. ((new_memory half_open_lawful, x, y), omega arith)) half_open_tried.insert_tried

pub range_map_remove_no_shortcut : NoShortcut (λ m a. BoundsInput (Map.held m) a) (λ a m m' r. RangeMapRemove m m' a.0 a.1 r)
range_map_remove_no_shortcut =
    no_shortcut Map.held bounds (range_map_of (one half_open)) (λ s e x y. (one_memory half_open_lawful, x, y)) half_open_tried.remove_tried

pub range_map_insert_unchecked_no_shortcut : NoShortcut (λ m a. Sound half_open (Map.held m) × EntryInput (Map.held m) a)
    (λ a m m' r. RangeMapInsertUnchecked m m' a.start a.end a.value r)
range_map_insert_unchecked_no_shortcut =
    no_shortcut Map.held entry (range_map_of (clear half_open)) (λ s e x y. ((clear_proper half_open_lawful).sound, ((new_memory half_open_lawful, x, y), omega arith)))
    half_open_tried.sound_insert_tried

pub range_map_remove_unchecked_no_shortcut : NoShortcut (λ m a. Sound half_open (Map.held m) × BoundsInput (Map.held m) a)
    (λ a m m' r. RangeMapRemoveUnchecked m m' a.0 a.1 r)
range_map_remove_unchecked_no_shortcut =
    no_shortcut Map.held bounds (range_map_of (one half_open)) (λ s e x y. (one_sound half_open_lawful, (one_memory half_open_lawful, x, y)))
    half_open_tried.sound_remove_tried

-- THE INCLUSIVE MAP, through either door
pub range_inclusive_map_insert_no_shortcut : NoShortcut (λ m a. EntryInput (InclusiveMap.held m) a)
    (λ a m m' r. RangeInclusiveMapInsert m m' a.start a.end a.value r)
range_inclusive_map_insert_no_shortcut =
    no_shortcut InclusiveMap.held entry (range_inclusive_map_of (clear inclusive)) (λ s e x y. ((new_memory inclusive_too, x, y), omega arith))
    inclusive_tried.insert_tried

pub range_inclusive_map_remove_no_shortcut : NoShortcut (λ m a. BoundsInput (InclusiveMap.held m) a)
    (λ a m m' r. RangeInclusiveMapRemove m m' a.0 a.1 r)
range_inclusive_map_remove_no_shortcut =
    no_shortcut InclusiveMap.held bounds (range_inclusive_map_of (one inclusive)) (λ s e x y. (one_memory inclusive_too, x, y))
    inclusive_tried.remove_tried

pub range_inclusive_map_insert_unchecked_no_shortcut : NoShortcut (λ m a. Sound inclusive (InclusiveMap.held m) × EntryInput (InclusiveMap.held m) a)
    (λ a m m' r. RangeInclusiveMapInsertUnchecked m m' a.start a.end a.value r)
range_inclusive_map_insert_unchecked_no_shortcut =
    no_shortcut InclusiveMap.held entry (range_inclusive_map_of (clear inclusive))
    (λ s e x y. ((clear_proper inclusive_too).sound, ((new_memory inclusive_too, x, y), omega arith))) inclusive_tried.sound_insert_tried

pub range_inclusive_map_remove_unchecked_no_shortcut : NoShortcut (λ m a. Sound inclusive (InclusiveMap.held m) × BoundsInput (InclusiveMap.held m) a)
    (λ a m m' r. RangeInclusiveMapRemoveUnchecked m m' a.0 a.1 r)
range_inclusive_map_remove_unchecked_no_shortcut =
    no_shortcut InclusiveMap.held bounds (range_inclusive_map_of (one inclusive)) (λ s e x y. (one_sound inclusive_too, (one_memory inclusive_too, x, y)))
    inclusive_tried.sound_remove_tried

-- THE SET OF HALF-OPEN RANGES
pub range_set_insert_no_shortcut : NoShortcut (λ m a. BoundsInput (Set.held m) a) (λ a m m' r. RangeSetInsert m m' a.0 a.1 r)
range_set_insert_no_shortcut =
    no_shortcut Set.held bounds (range_set_of (clear half_open)) (λ s e x y. (new_memory half_open_lawful, x, y)) half_open_tried.set_insert_tried

pub range_set_remove_no_shortcut : NoShortcut (λ m a. BoundsInput (Set.held m) a) (λ a m m' r. RangeSetRemove m m' a.0 a.1 r)
range_set_remove_no_shortcut =
    no_shortcut Set.held bounds (range_set_of (one half_open)) (λ s e x y. (one_memory half_open_lawful, x, y)) half_open_tried.set_remove_tried

-- THE SET OF INCLUSIVE RANGES
pub range_inclusive_set_insert_no_shortcut : NoShortcut (λ m a. BoundsInput (InclusiveSet.held m) a)
    (λ a m m' r. RangeInclusiveSetInsert m m' a.0 a.1 r)
range_inclusive_set_insert_no_shortcut =
    no_shortcut InclusiveSet.held bounds (range_inclusive_set_of (clear inclusive)) (λ s e x y. (new_memory inclusive_too, x, y))
    inclusive_tried.set_insert_tried

pub range_inclusive_set_remove_no_shortcut : NoShortcut (λ m a. BoundsInput (InclusiveSet.held m) a)
    (λ a m m' r. RangeInclusiveSetRemove m m' a.0 a.1 r)
range_inclusive_set_remove_no_shortcut =
    no_shortcut InclusiveSet.held bounds (range_inclusive_set_of (one inclusive)) (λ s e x y. (one_memory inclusive_too, x, y))
    inclusive_tried.set_remove_tried

-- THE REPORT: a function meets its promise
abbrev pub Reporter : (RangeMap → ℕ → ℕ → ℕ → ℕ → DayReport) → Type 0
Reporter f = (m : RangeMap) (zone year month day : ℕ) → DateInput (Map.held m) zone year month day
    → RangeMapDayReport m zone year month day (f m zone year month day)

-- document 01's November log: status 1 over 2024-11-03, Eastern, then 3 on 1730628000..1730653200
abbrev november : Stored
november = (insert half_open (insert half_open (clear half_open) (pos 1730606400) (pos 1730696400) 1).left (pos 1730628000) (pos 1730653200) 3).left

november_input : DateInput november 0 2024 11 3
unfolding after_events
november_input =
    let edits : List (Event half_open) = insert_event (pos 1730606400) (pos 1730696400) 1 ∷ insert_event (pos 1730628000) (pos 1730653200) 3 ∷ [] in
    let memory : InMemory november = history_memory half_open_lawful edits (omega arith, (omega arith, tt)) in
    (memory, omega arith, omega arith, omega arith, omega arith)

-- it does not call every day unrecorded: the seconds of the four statuses are not always 0
pub report_not_unrecorded : (f : RangeMap → ℕ → ℕ → ℕ → ℕ → DayReport) → Reporter f
    → ((m : RangeMap) (z y mo d : ℕ) → DateInput (Map.held m) z y mo d
    → let r = f m z y mo d in r.off_duty + r.sleeper_berth + r.driving + r.on_duty ≡ 0) → ⊥
report_not_unrecorded f meets always =
    let m = range_map_of november in
    let off : (f m 0 2024 11 3).off_duty ≡ 64800 = ap (λ (r : DayReport). r.off_duty) (meets m 0 2024 11 3 november_input ∙ november_report) in
    let sum = always m 0 2024 11 3 november_input in
    omega arith

-- nor does it always refuse with one number
pub report_not_refused : (f : RangeMap → ℕ → ℕ → ℕ → ℕ → DayReport) → Reporter f → (n : ℕ) → (n ≡ done → ⊥)
    → ((m : RangeMap) (z y mo d : ℕ) → DateInput (Map.held m) z y mo d → (f m z y mo d).answer ≡ n) → ⊥
report_not_refused f meets n other always =
    let m = range_map_of november in
    other (sym (always m 0 2024 11 3 november_input) ∙ ap (λ (r : DayReport). r.answer) (meets m 0 2024 11 3 november_input ∙ november_report))

-- are all numbers of a list u8
unfoldable all_small : List ℕ → Bool
all_small [] = true
all_small (x ∷ xs) = ltb x 256 && all_small xs

small_bytes : (xs : List ℕ) → all_small xs ≡ true → Bytes xs
unfolding all_small
small_bytes [] e k = omega arith
small_bytes (x ∷ xs) e zero = ltb-true x 256 (both (ltb x 256) (all_small xs) e).0
small_bytes (x ∷ xs) e (suc k) = small_bytes xs (both (ltb x 256) (all_small xs) e).1 k

-- the form of a new map: the mark, and count 0
abbrev mark_only : List ℕ
mark_only = 0x52 ∷ 0x4D ∷ 0x30 ∷ 0x31 ∷ 0 ∷ 0 ∷ 0 ∷ 0 ∷ []

mark_only_bytes : Bytes mark_only
unfolding all_small
mark_only_bytes = small_bytes mark_only refl

mark_only_form : form_of rm01 (clear half_open) ≡ mark_only
unfolding of_maps bytes_of range_bytes entries entries_of ranges_bytes form_of
mark_only_form = refl

-- THE READER: a function that meets its promise does not always refuse with one number, 6 or any other: the form of a new map is read
pub reader_not_refused : (f : RangeMap → List ℕ → RangeMap × ℕ)
    → ((m : RangeMap) (bytes : List ℕ) → BytesInput (Map.held m) bytes → RangeMapRead m (f m bytes).0 bytes (f m bytes).1)
    → (n : ℕ) → (n ≡ done → ⊥) → ((m : RangeMap) (bytes : List ℕ) → BytesInput (Map.held m) bytes → (f m bytes).1 ≡ n) → ⊥
unfolding after_events
reader_not_refused f meets n other always =
    let new = range_map_of (clear half_open) in
    let input : BytesInput (clear half_open) mark_only = (new_memory half_open_lawful, mark_only_bytes) in
    let is_read = ap (read rm01 (clear half_open)) (sym mark_only_form) ∙ history_read_back [] (clear half_open) in
    other (sym (always new mark_only input) ∙ ap (λ (o : Edited). o.answer) (meets new mark_only input ∙ is_read))

-- THE QUERY `A1` of two new maps in the window 0..8 is answered with 0, and no range; and one instant with no
abbrev a1 : List ℕ
a1 = 0x41 ∷ 0x31 ∷ []

a1_input : QueryInput (clear half_open) (clear half_open) (pos 0) (pos 8) a1
unfolding all_small
a1_input = (new_memory half_open_lawful, new_memory half_open_lawful, sfits_lit tt, sfits_lit tt, small_bytes a1 refl)

a1_ranges : query_ranges (clear half_open) (clear half_open) (pos 0) (pos 8) a1 [] [] ≡ record { answer = Ok 0; starts = []; ends = [] }
unfolding of_queries
a1_ranges = refl

a1_at : query_at (clear half_open) (clear half_open) (pos 0) (pos 8) a1 (pos 0) ≡ Ok false
unfolding of_queries
a1_at = refl

no_lists : ListsInput [] []
no_lists = (λ k. sfits_lit tt, λ k. sfits_lit tt)

-- a function that meets the promise of the ranges does not always refuse with one number, 7 or any other
pub query_not_refused : (f : RangeMap → RangeMap → ℤ → ℤ → List ℕ → List ℤ → List ℤ → Reply)
    → ((a b : RangeMap) (start end : ℤ) (bytes : List ℕ) (os oe : List ℤ) → QueryInput (Map.held a) (Map.held b) start end bytes → ListsInput os oe
    → let r = f a b start end bytes os oe in RangeMapQuery a b start end bytes os r.starts oe r.ends r.told)
    → (n : ℕ) → (n ≡ done → ⊥)
    → ((a b : RangeMap) (start end : ℤ) (bytes : List ℕ) (os oe : List ℤ) → QueryInput (Map.held a) (Map.held b) start end bytes → ListsInput os oe
    → (f a b start end bytes os oe).told.answer ≡ n) → ⊥
query_not_refused f meets n other always =
    let new = range_map_of (clear half_open) in
    let told = (meets new new (pos 0) (pos 8) a1 [] [] a1_input no_lists).number in
    other (sym (always new new (pos 0) (pos 8) a1 [] [] a1_input no_lists)
    ∙ ap (λ (c : Count). c.answer) (told ∙ ap (λ (w : Written). counted_in_c w.answer) a1_ranges))

-- nor does one that meets the promise of one instant
pub query_at_not_refused : (f : RangeMap → RangeMap → ℤ → ℤ → List ℕ → ℤ → Told)
    → ((a b : RangeMap) (start end : ℤ) (bytes : List ℕ) (k : ℤ) → QueryInput (Map.held a) (Map.held b) start end bytes → SFits w64 k
    → RangeMapQueryAt a b start end bytes k (f a b start end bytes k))
    → (n : ℕ) → (n ≡ done → ⊥)
    → ((a b : RangeMap) (start end : ℤ) (bytes : List ℕ) (k : ℤ) → QueryInput (Map.held a) (Map.held b) start end bytes → SFits w64 k
    → (f a b start end bytes k).answer ≡ n) → ⊥
query_at_not_refused f meets n other always =
    let new = range_map_of (clear half_open) in
    other (sym (always new new (pos 0) (pos 8) a1 (pos 0) a1_input (sfits_lit tt))
    ∙ ap (λ (t : Told). t.answer) (meets new new (pos 0) (pos 8) a1 (pos 0) a1_input (sfits_lit tt) ∙ ap asked_in_c a1_at))
