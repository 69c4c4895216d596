-- CALLS ARE EVENTS: what a call of the half-open map answers and leaves is what the event of `one_map` answers and leaves.
use Prim.Native.Nat.{ℕ}
use mathlib.Core.Path.{◌≡◌, refl, sym, ap, subst, ◌∙◌}
use mathlib.Core.List.{List, [], ◌∷◌, map}
use mathlib.Core.Option.{some, none}
use Rattle.answers.specs.Answers.{done}
use Rattle.key.specs.Range.{half_open}
use Rattle.key.proofs.Lawful.{half_open_lawful}
use Rattle.outcomes.specs.Outcomes.{Edited, leaving, Extended, entries, clear}
use Rattle.map.specs.declared.RangeMap.{RangeMap}
use Rattle.map.specs.Map.{held}
use Rattle.one_map.specs.Events.{Proper, Event, insert_event, remove_event, bulk_event, clear_event, read_event, happens, after_events}
use Rattle.one_map.proofs.OneMap.{clear_proper}
use Rattle.one_map.proofs.Histories.{event_proper}
use Rattle.theorems.specs.Calls.{Call, insert_call, remove_call, extend_call, clear_call, read_call, Calls}
use Rattle.theorems.specs.Structs.{RangeMapCall, RangeMapAfter}
use Rattle.theorems.proofs.Steps.{either_door}

-- the event of a call
abbrev pub event_of : Call → Event half_open
event_of (insert_call s e v r) = insert_event s e v
event_of (remove_call s e r) = remove_event s e
event_of (extend_call ss es vs t) = bulk_event (entries ss es vs)
event_of clear_call = clear_event
event_of (read_call bs r) = read_event refl bs

-- what a call answered
abbrev pub answer_of : Call → ℕ
answer_of (insert_call s e v r) = r
answer_of (remove_call s e r) = r
answer_of (extend_call ss es vs t) = t.answer
answer_of clear_call = done
answer_of (read_call bs r) = r

-- ONE CALL of a well-formed map answers and leaves what its event does
pub call_happens : (c : Call) (m m' : RangeMap) → Proper half_open (held m) → RangeMapCall c m m' → leaving (answer_of c) (held m') ≡ happens (event_of c) (held m)
call_happens (insert_call s e v r) m m' p q = either_door half_open_lawful p s e (some v) q
call_happens (remove_call s e r) m m' p q = either_door half_open_lawful p s e none q
call_happens (extend_call ss es vs t) m m' p q = ap (λ (o : Extended). leaving o.told.answer o.left) q
call_happens clear_call m m' p q = ap (leaving done) q
call_happens (read_call bs r) m m' p q = q

-- CALLS leave what their events leave
calls_happen : (cs : List Call) (m n : RangeMap) → Proper half_open (held m) → Calls RangeMapCall cs m n → held n ≡ after_events (map event_of cs) (held m)
unfolding Calls after_events
calls_happen [] m n p q = ap held (sym q)
calls_happen (c ∷ cs) m n p (next, (q, qs)) =
    let is : held next ≡ (happens (event_of c) (held m)).left = ap (λ (o : Edited). o.left) (call_happens c m next p q) in
    let more = calls_happen cs next n (subst (Proper half_open) (sym is) (event_proper half_open_lawful (event_of c) p)) qs in
    more ∙ ap (after_events (map event_of cs)) is

-- of a new map
pub after_events_lem : (cs : List Call) (n : RangeMap) → RangeMapAfter cs n → held n ≡ after_events (map event_of cs) (clear half_open)
after_events_lem cs n (m, (new, q)) =
    calls_happen cs m n (subst (Proper half_open) (sym new) (clear_proper half_open_lawful)) q ∙ ap (after_events (map event_of cs)) new
