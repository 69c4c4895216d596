-- ONE CALL: what each shape of promise, of a map or of a set of either kind, says of the stored map that is left.
use Prim.Native.Nat.{ℕ, ◌<◌}
use mathlib.Core.Path.{◌≡◌, refl, sym, ap, subst, ◌∙◌}
use mathlib.Core.Bool.{true}
use mathlib.Core.Logic.{◌⊎◌, inl, inr}
use mathlib.Core.List.{List, [], ◌∷◌, map}
use mathlib.Core.Option.{Option, some, none}
use lib.Dec.{eqb}
use borrow.Author.Tests.{eqb-true}
use lib.ListN.{take}
use lib.IntN.{ℤ}
use Rattle.answers.specs.Answers.{done}
use Rattle.answers.specs.Refusals.{number}
use Rattle.span.specs.Span.{Ordered, Real}
use Rattle.span.proofs.Tests.{cases}
use Rattle.key.specs.Rank.{rank}
use Rattle.key.specs.Range.{Kind, half_open}
use Rattle.key.proofs.Lawful.{Lawful, half_open_lawful}
use Rattle.outcomes.specs.Stored.{places}
use Rattle.outcomes.specs.declared.Stored.{Stored}
use Rattle.outcomes.specs.Outcomes.{Edited, leaving, Extended, extended, edit_sound, edit, insert, remove, bulk_insert, clear, Change, edits}
use Rattle.key.specs.declared.Entry.{Entry}
use Rattle.outcomes.specs.Outcomes.{entry_change, span_edits}
use Rattle.outcomes.specs.declared.Applied.{Applied}
use Rattle.outcomes.specs.Sets.{plain, if_set, pairs}
use Rattle.outcomes.proofs.Edits.{edit_accepted, none_refused}
use Rattle.outcomes.proofs.Bulk.{range}
use Rattle.byte_form.specs.Layout.{rm01}
use Rattle.byte_form.specs.Form.{entries_of, map_in, read}
use Rattle.one_map.specs.Events.{Proper, value_at, Event, insert_event, remove_event, bulk_event, clear_event, read_event, happens}
use Rattle.one_map.specs.Events.{Effect, changed, anew, if_accepted, effect, left_at}
use Rattle.one_map.specs.SetEvents.{SetEvent, set_insert_event, set_remove_event, set_bulk_event, set_clear_event, set_happens}
use Rattle.one_map.proofs.Known.{proper_tidy}
use Rattle.one_map.proofs.OneMap.{unchecked_same, edit_proper, read_proper}
use Rattle.one_map.proofs.Histories.{event_proper, event_holds, bulk_leaves, ranges_entries, read_done}
use Rattle.one_map.proofs.Refusals.{sound_unchanged, edit_unchanged}
use Rattle.one_map.proofs.SetRefusals.{set_insert_unchanged, set_remove_unchanged}
use Rattle.one_map.proofs.SetHistories.{set_as_map, set_stays}
use Rattle.theorems.specs.Calls.{if_done, gave}

-- a proper map is left, which tells of each key what was given it, or else what was held; and no change that was made is of an empty range
pub record Step (kind : Kind) (did : Effect) (m m' : Stored) : Type 0 where
  pub proper : Proper kind m'
  pub holds : (k : ℤ) → value_at kind m' k ≡ left_at kind did k (value_at kind m k)
  pub real : Real (span_edits kind did.made)

-- NO CHANGE IS EMPTY: what was accepted is not, as its answer says
accepted_real : (kind : Kind) (o : Edited) (x : Effect) → (o.answer ≡ 0 → Real (span_edits kind x.made)) → Real (span_edits kind (if_accepted o x).made)
unfolding span_edits
accepted_real kind o x f = cases (eqb o.answer 0) (λ (y : Effect). Real (span_edits kind y.made)) (λ t. f (eqb-true o.answer 0 t)) (λ t. tt)

-- nor is a range of a well-formed map
entries_real : (kind : Kind) (b : ℕ) (xs : List Entry) → Ordered b (map (range kind) xs) → Real (span_edits kind (map entry_change xs))
unfolding span_edits
entries_real kind b [] o = tt
entries_real kind b (x ∷ xs) o = (o.1, entries_real kind (kind.past x.end) xs o.2)

read_real : (m : Stored) (bs : List ℕ) → (read rm01 m bs).answer ≡ 0 → Real (span_edits half_open (map entry_change (entries_of (map_in rm01 bs))))
read_real m bs z =
    let n : Stored = map_in rm01 bs in
    let tidy = proper_tidy (read_proper m bs (read_done m bs z)).0 in
    entries_real half_open 0 (entries_of n) (subst (Ordered 0) (ranges_entries half_open n) tidy.ordered)

module _ {kind : Kind} (law : Lawful kind) where
  edit_real : {m : Stored} → Proper kind m → (s e : ℤ) (new : Option ℕ) → (edit kind m s e new).answer ≡ 0 → rank s < kind.past e
  edit_real {m} p s e new z = (edit_accepted kind places m s e new (ap (λ (o : Edited). o.answer) (unchecked_same p s e new) ∙ z)).real

  edits_real : (cs : List Change) {m : Stored} → Proper kind m → (edits kind m cs).answer ≡ 0 → Real (span_edits kind cs)
  unfolding edits span_edits
  edits_real [] p z = tt
  edits_real (c ∷ cs) {m} p z =
      let one = edit kind m c.start c.end c.new in
      let (first, others) = none_refused one (edits kind one.left cs) z in
      (edit_real p c.start c.end c.new first, edits_real cs (edit_proper law p c.start c.end c.new first) others)

  event_real : (x : Event kind) {m : Stored} → Proper kind m → Real (span_edits kind (effect x m).made)
  unfolding span_edits
  event_real (insert_event s e v) {m} p = accepted_real kind (edit kind m s e (some v)) (gave s e (some v)) (λ z. (edit_real p s e (some v) z, tt))
  event_real (remove_event s e) {m} p = accepted_real kind (edit kind m s e none) (gave s e none) (λ z. (edit_real p s e none z, tt))
  event_real (bulk_event xs) p = edits_real _ p (ap (λ (o : Edited). o.answer) (bulk_leaves law p xs))
  event_real clear_event p = tt
  event_real (read_event is bs) {m} p =
      let cs : List Change = map entry_change (entries_of (map_in rm01 bs)) in
      accepted_real kind (read rm01 m bs) (anew cs) (λ z. subst (λ (k : Kind). Real (span_edits k cs)) (sym is) (read_real m bs z))

module _ {kind : Kind} (law : Lawful kind) {m m' : Stored} (p : Proper kind m) where
  -- a promise that says what an event leaves
  event_step : (x : Event kind) → m' ≡ (happens x m).left → Step kind (effect x m) m m'
  event_step x q = subst (Step kind (effect x m) m) (sym q) (record { proper = event_proper law x p; holds = event_holds law x p; real = event_real law x p })

  -- insert
  pub insert_step : (s e : ℤ) (v : ℕ) {r : ℕ} → leaving r m' ≡ edit kind m s e (some v) → Step kind (if_done r (gave s e (some v))) m m'
  insert_step s e v q =
      subst (λ (o : Edited). Step kind (if_accepted o (gave s e (some v))) m m') (sym q) (event_step (insert_event s e v) (ap (λ (o : Edited). o.left) q))

  -- remove
  pub remove_step : (s e : ℤ) {r : ℕ} → leaving r m' ≡ edit kind m s e none → Step kind (if_done r (gave s e none)) m m'
  remove_step s e q =
      subst (λ (o : Edited). Step kind (if_accepted o (gave s e none)) m m') (sym q) (event_step (remove_event s e) (ap (λ (o : Edited). o.left) q))

  -- through either door
  pub either_door : (s e : ℤ) (new : Option ℕ) {r : ℕ} → (leaving r m' ≡ edit kind m s e new) ⊎ (leaving r m' ≡ edit_sound kind places m s e new)
      → leaving r m' ≡ edit kind m s e new
  either_door s e new (inl q) = q
  either_door s e new (inr q) = q ∙ unchecked_same p s e new

  -- bulk insert
  pub extend_step : (xs : List Entry) {t : Applied} → extended t m' ≡ bulk_insert kind m xs → Step kind (changed (map entry_change (take t.applied xs))) m m'
  extend_step xs q =
      subst (λ (o : Extended). Step kind (changed (map entry_change (take o.told.applied xs))) m m') (sym q)
      (event_step (bulk_event xs) (ap (λ (o : Extended). o.left) q))

  -- clear
  pub clear_step : m' ≡ clear kind → Step kind (anew []) m m'
  clear_step q = event_step clear_event q

-- read of bytes, which half-open maps alone have
pub read_step : {m m' : Stored} → Proper half_open m → (bs : List ℕ) {r : ℕ} → leaving r m' ≡ read rm01 m bs
    → Step half_open (if_done r (anew (map entry_change (entries_of (map_in rm01 bs))))) m m'
read_step {m} {m'} p bs q =
    subst (λ (o : Edited). Step half_open (if_accepted o (anew (map entry_change (entries_of (map_in rm01 bs))))) m m') (sym q)
    (event_step half_open_lawful p (read_event refl bs) (ap (λ (o : Edited). o.left) q))

-- A SET as a call leaves it: it is a set again
pub record SetStep (kind : Kind) (did : Effect) (m m' : Stored) : Type 0 where
  pub as_map : Step kind did m m'
  pub set_again : plain m' ≡ true

-- bulk insert of a set is that of the map
pub as_bulk : (kind : Kind) (m : Stored) (xs : List Entry) → plain m ≡ true
    → if_set m (bulk_insert kind m xs) (λ why. extended (record { answer = number why; applied = 0 }) m) ≡ bulk_insert kind m xs
as_bulk kind m xs z = rw z

module _ {kind : Kind} (law : Lawful kind) {m m' : Stored} (p : Proper kind m) (z : plain m ≡ true) where
  -- an event of a set leaves a set, as the same event of a map does
  set_left : (x : SetEvent) → m' ≡ (set_happens kind x m).left → plain m' ≡ true
  set_left x q = ap plain (q ∙ ap (λ (o : Edited). o.left) (set_as_map kind x m z)) ∙ set_stays law x p z

  -- insert
  pub set_insert_step : (s e : ℤ) {r : ℕ} → leaving r m' ≡ if_set m (insert kind m s e 0) (λ why. leaving (number why) m) → SetStep kind (if_done r (gave s e (some 0))) m m'
  set_insert_step s e q = record {
    as_map = insert_step law p s e 0 (q ∙ set_as_map kind (set_insert_event s e) m z);
    set_again = set_left (set_insert_event s e) (ap (λ (o : Edited). o.left) q);
  }

  -- remove
  pub set_remove_step : (s e : ℤ) {r : ℕ} → leaving r m' ≡ if_set m (remove kind m s e) (λ why. leaving (number why) m) → SetStep kind (if_done r (gave s e none)) m m'
  set_remove_step s e q = record {
    as_map = remove_step law p s e (q ∙ set_as_map kind (set_remove_event s e) m z);
    set_again = set_left (set_remove_event s e) (ap (λ (o : Edited). o.left) q);
  }

  -- bulk insert
  pub set_extend_step : (ss es : List ℤ) {t : Applied}
      → extended t m' ≡ if_set m (bulk_insert kind m (pairs ss es)) (λ why. extended (record { answer = number why; applied = 0 }) m)
      → SetStep kind (changed (map entry_change (take t.applied (pairs ss es)))) m m'
  set_extend_step ss es q = record {
    as_map = extend_step law p (pairs ss es) (q ∙ as_bulk kind m (pairs ss es) z);
    set_again = set_left (set_bulk_event ss es) (ap (λ (o : Extended). o.left) q);
  }

  -- clear
  pub set_clear_step : m' ≡ clear kind → SetStep kind (anew []) m m'
  set_clear_step q = record { as_map = clear_step law p q; set_again = set_left set_clear_event q }

-- REFUSED: what leaves the map as it was on any number but 0 does so where its promise is met
pub refused_same : {r : ℕ} {m m' : Stored} {o : Edited} → ((o.answer ≡ 0 → ⊥) → o.left ≡ m) → leaving r m' ≡ o → (r ≡ done → ⊥) → m' ≡ m
refused_same kept q n = ap (λ (o : Edited). o.left) q ∙ kept (λ z. n (ap (λ (o : Edited). o.answer) q ∙ z))

module _ (kind : Kind) (m : Stored) (s e : ℤ) where
  -- insert and remove of a map, refused at either door
  pub either_refused : (new : Option ℕ) {r : ℕ} {m' : Stored} → (leaving r m' ≡ edit kind m s e new) ⊎ (leaving r m' ≡ edit_sound kind places m s e new)
      → (r ≡ done → ⊥) → m' ≡ m
  either_refused new (inl q) n = refused_same (edit_unchanged kind m s e new) q n
  either_refused new (inr q) n = refused_same (sound_unchanged kind m s e new) q n

  -- insert of a set
  pub set_insert_refused : {r : ℕ} {m' : Stored} → leaving r m' ≡ if_set m (insert kind m s e 0) (λ why. leaving (number why) m) → (r ≡ done → ⊥) → m' ≡ m
  set_insert_refused q n = refused_same (set_insert_unchanged kind m s e) q n

  -- remove of a set
  pub set_remove_refused : {r : ℕ} {m' : Stored} → leaving r m' ≡ if_set m (remove kind m s e) (λ why. leaving (number why) m) → (r ≡ done → ⊥) → m' ≡ m
  set_remove_refused q n = refused_same (set_remove_unchanged kind m s e) q n
