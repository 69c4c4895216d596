-- HISTORIES: after any events from a new map each key holds the last value given it, or none; events that agree on this leave the same stored map.
use Prim.Native.Nat.{ℕ}
use native.Mathlib.Omega.{arith}
use mathlib.Core.Path.{◌≡◌, refl, sym, ap, subst, ◌∙◌}
use mathlib.Core.Bool.{Bool, true, false, cond}
use mathlib.Core.List.{List, [], ◌∷◌, map}
use mathlib.Core.Option.{Option, some, none}
use borrow.Author.Tests.{eqb-true, eqb-false, eq-eqb}
use lib.Dec.{eqb}
use lib.ListN.{take}
use lib.IntN.{ℤ}
use mir.Syntax.{w64}
use mir.Val.{SFits}
use Rattle.std.specs.Prelude.{Ok, None}
use Rattle.answers.specs.Answers.{done, no_map}
use Rattle.span.specs.Span.{Span, at, Ordered, Edit, last}
use Rattle.span.proofs.Tests.{cases}
use Rattle.span.proofs.Holding.{or_none}
use Rattle.span.proofs.Sets.{last_puts}
use Rattle.key.specs.Rank.{rank}
use Rattle.key.specs.Range.{Kind, half_open}
use Rattle.key.specs.declared.Entry.{Entry}
use Rattle.key.proofs.Lawful.{Lawful}
use Rattle.outcomes.specs.Stored.{ranges}
use Rattle.outcomes.specs.declared.Stored.{Stored}
use Rattle.outcomes.specs.Numbers as Numbers
use Rattle.outcomes.specs.Outcomes.{lookup, entry_change, Edited, leaving, Change, edit, clear, bulk_insert_sound, bulk_insert, edits, span_edits}
use Rattle.outcomes.proofs.Edits.{none_refused, ranges_cleared}
use Rattle.outcomes.proofs.Bulk.{range, entries_ranges, changes_puts, bulk_singles}
use Rattle.byte_form.specs.Layout.{rm01}
use Rattle.byte_form.specs.Form.{entries_of, map_in, is_form, read}
use Rattle.one_map.specs.Events.{Proper, value_at, Event, insert_event, remove_event, bulk_event, clear_event, read_event, happens, after_events, last_value}
use Rattle.one_map.specs.Events.{Effect, changed, anew, if_accepted, effect, left_at}
use Rattle.one_map.proofs.Known.{some_found, proper_formed, proper_tidy, value_at_lem, none_found, same_lookups}
use Rattle.one_map.proofs.OneMap.{edit_proper, edit_instants, clear_proper, clear_holds, read_proper}
use Rattle.one_map.proofs.Refusals.{edit_unchanged, read_unchanged}

-- a proper map is left, which holds at every instant what the effect gave it, or else what was held
pub record Left (kind : Kind) (m left : Stored) (x : Effect) : Type 0 where
  pub proper : Proper kind left
  pub holds : (k : ℕ) → at (ranges kind left) k ≡ last (span_edits kind x.made) k (cond x.fresh none (at (ranges kind m) k))

-- nothing done
same_left : {kind : Kind} {m left : Stored} → Proper kind m → left ≡ m → Left kind m left (changed [])
unfolding last span_edits
same_left {kind} {m} p e = subst (λ (l : Stored). Left kind m l (changed [])) (sym e) (record { proper = p; holds = λ k. refl })

-- what answered 0 did what it meant, and what did not did nothing
done_or_not : {kind : Kind} {m : Stored} (o : Edited) (x : Effect) → Proper kind m
    → (o.answer ≡ 0 → Left kind m o.left x) → ((o.answer ≡ 0 → ⊥) → o.left ≡ m) → Left kind m o.left (if_accepted o x)
done_or_not {kind} {m} o x p f g =
    cases (eqb o.answer 0) (Left kind m o.left) (λ t. f (eqb-true o.answer 0 t)) (λ t. same_left p (g (eqb-false o.answer 0 t)))

module _ {kind : Kind} (law : Lawful kind) where
  -- one edit
  edit_left : {m : Stored} → Proper kind m → (s e : ℤ) (new : Option ℕ) → (edit kind m s e new).answer ≡ 0
      → Left kind m (edit kind m s e new).left (changed (record { start = s; end = e; new = new } ∷ []))
  unfolding last span_edits
  edit_left p s e new z = record { proper = edit_proper law p s e new z; holds = edit_instants law p s e new z }

  -- edits of which none is refused
  run_left : (cs : List Change) {m : Stored} → Proper kind m → (edits kind m cs).answer ≡ 0 → Left kind m (edits kind m cs).left (changed cs)
  unfolding edits span_edits last
  run_left [] p z = record { proper = p; holds = λ k. refl }
  run_left (c ∷ cs) {m} p z =
      let one = edit kind m c.start c.end c.new in
      let (first, others) = none_refused one (edits kind one.left cs) z in
      let l = edit_left p c.start c.end c.new first in
      let r = run_left cs l.proper others in
      rw (eq-eqb one.answer 0 first) (record { proper = r.proper; holds = λ k. r.holds k ∙ ap (last (span_edits kind cs) k) (l.holds k) })

  -- bulk insert: the entries that were applied
  bulk_left : {m : Stored} → Proper kind m → (xs : List Entry)
      → Left kind m (bulk_insert kind m xs).left (changed (map entry_change (take (bulk_insert kind m xs).told.applied xs)))
  unfolding bulk_insert
  bulk_left {m} p xs =
      let cs : List Change = map entry_change (take (bulk_insert_sound kind m 0 xs).told.applied xs) in
      let is : edits kind m cs ≡ leaving done (bulk_insert_sound kind m 0 xs).left = bulk_singles kind law m xs p.sound p.all_places in
      rw (proper_formed p)
      (subst (λ (l : Stored). Left kind m l (changed cs)) (ap (λ (o : Edited). o.left) is) (run_left cs p (ap (λ (o : Edited). o.answer) is)))

  -- clear
  clear_left : (m : Stored) → Left kind m (clear kind) (anew [])
  unfolding last span_edits at
  clear_left m = record { proper = clear_proper law; holds = λ k. ap (λ (xs : List Span). at xs k) (ranges_cleared kind law) }

-- the ranges of a map are those of its entries
pub ranges_entries : (kind : Kind) (m : Stored) → ranges kind m ≡ map (range kind) (entries_of m)
unfolding ranges entries_of
ranges_entries kind m = entries_ranges kind m.count m.starts m.ends m.values

-- bytes that are read leave the map that stands in them
pub read_done : (m : Stored) (bs : List ℕ) → (read rm01 m bs).answer ≡ 0 → read rm01 m bs ≡ leaving done (map_in rm01 bs)
unfolding read
read_done m bs z = go (is_form rm01 bs) z
  where
    go : (t : Bool) → (cond t (leaving done (map_in rm01 bs)) (leaving no_map m)).answer ≡ 0 → cond t (leaving done (map_in rm01 bs)) (leaving no_map m) ≡ leaving done (map_in rm01 bs)
    go true z = refl
    go false z = absurd (omega arith)

-- read: the ranges of that map, put one after the other
read_left : {m : Stored} → (bs : List ℕ) → (read rm01 m bs).answer ≡ 0
    → Left half_open m (read rm01 m bs).left (anew (map entry_change (entries_of (map_in rm01 bs))))
read_left {m} bs z =
    let xs : List Entry = entries_of (map_in rm01 bs) in
    let is = read_done m bs z in
    let p = (read_proper m bs is).0 in
    let r : ranges half_open (map_in rm01 bs) ≡ map (range half_open) xs = ranges_entries half_open (map_in rm01 bs) in
    let o : Ordered 0 (map (range half_open) xs) = subst (Ordered 0) r (proper_tidy p).ordered in
    subst (λ (l : Edited). Left half_open m l.left (anew (map entry_change xs))) (sym is) (record {
      proper = p;
      holds = λ k. ap (λ (l : List Span). at l k) r ∙ sym (or_none (at (map (range half_open) xs) k)) ∙ sym (last_puts 0 (map (range half_open) xs) k none o)
          ∙ ap (λ (l : List Edit). last l k none) (sym (changes_puts half_open xs));
    })

-- ANY EVENT, accepted or refused
module _ {kind : Kind} (law : Lawful kind) where
  -- each event leaves what its effect says
  pub event_left : (x : Event kind) {m : Stored} → Proper kind m → Left kind m (happens x m).left (effect x m)
  event_left (insert_event s e v) {m} p = done_or_not (edit kind m s e (some v)) _ p (edit_left law p s e (some v)) (edit_unchanged kind m s e (some v))
  event_left (remove_event s e) {m} p = done_or_not (edit kind m s e none) _ p (edit_left law p s e none) (edit_unchanged kind m s e none)
  event_left (bulk_event xs) p = bulk_left law p xs
  event_left clear_event {m} p = clear_left law m
  event_left (read_event is bs) {m} p =
      let cs : List Change = map entry_change (entries_of (map_in rm01 bs)) in
      let as_read : (read rm01 m bs).answer ≡ 0 → Left kind m (read rm01 m bs).left (anew cs) =
      λ z. subst (λ (k : Kind). Left k m (read rm01 m bs).left (anew cs)) (sym is) (read_left bs z) in
      done_or_not (read rm01 m bs) (anew cs) p as_read (read_unchanged m bs)

  -- an event leaves a well-formed map
  pub event_proper : (x : Event kind) {m : Stored} → Proper kind m → Proper kind (happens x m).left
  event_proper x p = (event_left x p).proper

  -- ONE EVENT, as lookups tell: each key holds what the event gave it, or else what it held
  pub event_holds : (x : Event kind) {m : Stored} → Proper kind m → (k : ℤ) → value_at kind (happens x m).left k ≡ left_at kind (effect x m) k (value_at kind m k)
  unfolding left_at
  event_holds x {m} p k =
      value_at_lem (event_proper x p) k ∙ (event_left x p).holds (rank k)
      ∙ ap (λ (o : Option ℕ). last (span_edits kind (effect x m).made) (rank k) (cond (effect x m).fresh none o)) (sym (value_at_lem p k))

  -- events leave a well-formed map
  pub events_proper : (xs : List (Event kind)) {m : Stored} → Proper kind m → Proper kind (after_events xs m)
  unfolding after_events
  events_proper [] p = p
  events_proper (x ∷ xs) p = events_proper xs (event_proper x p)

  -- ANY EVENTS: each key holds the last value that they gave it, or else what it held
  pub events_hold : (xs : List (Event kind)) {m : Stored} → Proper kind m → (k : ℤ) → value_at kind (after_events xs m) k ≡ last_value xs m k (value_at kind m k)
  unfolding after_events last_value
  events_hold [] p k = refl
  events_hold (x ∷ xs) {m} p k = events_hold xs (event_proper x p) k ∙ ap (last_value xs (happens x m).left k) (event_holds x p k)

  -- HISTORIES: after any events from a new map, each key holds the last value given it, or none
  pub last_value_held : (xs : List (Event kind)) (k : ℤ) → value_at kind (after_events xs (clear kind)) k ≡ last_value xs (clear kind) k none
  last_value_held xs k = events_hold xs (clear_proper law) k ∙ ap (last_value xs (clear kind) k) (clear_holds law k)

  -- so lookup answers 0 with that value
  pub last_value_told : (xs : List (Event kind)) (k : ℤ) {v : ℕ} → last_value xs (clear kind) k none ≡ some v
      → let r = Numbers.found_in_c (lookup kind (after_events xs (clear kind)) k) in (r.answer ≡ 0) × (r.value ≡ v)
  last_value_told xs k e = some_found (lookup kind (after_events xs (clear kind)) k) (last_value_held xs k ∙ e)

  -- or 5 where there is none
  pub no_value_told : (xs : List (Event kind)) (k : ℤ) → last_value xs (clear kind) k none ≡ none
      → lookup kind (after_events xs (clear kind)) k ≡ Ok None
  no_value_told xs k e = none_found (events_proper xs (clear_proper law)) k (last_value_held xs k ∙ e)

  -- and two histories that agree at every key leave the same stored map, unused places included
  pub same_histories : (xs ys : List (Event kind)) → ((k : ℤ) → SFits w64 k → last_value xs (clear kind) k none ≡ last_value ys (clear kind) k none)
      → after_events xs (clear kind) ≡ after_events ys (clear kind)
  same_histories xs ys e =
      let new = clear_proper law in
      same_lookups law (events_proper xs new) (events_proper ys new) (λ k fit. last_value_held xs k ∙ e k fit ∙ sym (last_value_held ys k))

-- an event that is done as a whole or not at all: any but a bulk insert
abbrev pub Whole : {kind : Kind} → Event kind → Type 0
Whole (insert_event s e v) = Unit {0}
Whole (remove_event s e) = Unit {0}
Whole (bulk_event xs) = ⊥
Whole clear_event = Unit {0}
Whole (read_event is bs) = Unit {0}

-- A REFUSED EVENT leaves the map as it was
pub refused_leaves : {kind : Kind} (x : Event kind) (m : Stored) → Whole x → ((happens x m).answer ≡ 0 → ⊥) → (happens x m).left ≡ m
refused_leaves {kind} (insert_event s e v) m w n = edit_unchanged kind m s e (some v) n
refused_leaves {kind} (remove_event s e) m w n = edit_unchanged kind m s e none n
refused_leaves (bulk_event xs) m w n = absurd w
refused_leaves clear_event m w n = absurd (n refl)
refused_leaves (read_event is bs) m w n = read_unchanged m bs n

-- so it may as well not have happened
pub refused_skipped : {kind : Kind} (x : Event kind) (xs : List (Event kind)) (m : Stored) → Whole x → ((happens x m).answer ≡ 0 → ⊥)
    → after_events (x ∷ xs) m ≡ after_events xs m
unfolding after_events
refused_skipped x xs m w n = ap (after_events xs) (refused_leaves x m w n)

-- A BULK INSERT leaves what its first entries leave, as many as it applied, each inserted and none refused
pub bulk_leaves : {kind : Kind} → Lawful kind → {m : Stored} → Proper kind m → (xs : List Entry)
    → edits kind m (map entry_change (take (bulk_insert kind m xs).told.applied xs)) ≡ leaving done (happens {kind = kind} (bulk_event xs) m).left
unfolding bulk_insert
bulk_leaves {kind} law {m} p xs = rw (proper_formed p) (bulk_singles kind law m xs p.sound p.all_places)
