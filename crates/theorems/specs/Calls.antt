-- CALLS of the exported functions that change a map or a set, with what each answered; and the last value that they gave a key.
use Rattle.std.specs.Prelude.{ℕ, ◌≡◌, cond, List, [], ◌∷◌, ◌++◌, map, eqb, take, ℤ}
use Rattle.std.proofs.Math.Option.{Option, some, none}
use Rattle.answers.specs.Answers.{done, none_there}
use Rattle.key.specs.Range.{Kind}
use Rattle.outcomes.specs.Outcomes.{Change, entry_change, entries}
use Rattle.outcomes.specs.declared.Applied.{Applied}
use Rattle.outcomes.specs.declared.Range.{Range}
use Rattle.outcomes.specs.Sets.{pairs}
use Rattle.byte_form.specs.Layout.{rm01}
use Rattle.byte_form.specs.Form.{entries_of, map_in}
use Rattle.one_map.specs.Events.{Effect, changed, anew, left_at}

-- a call that can change a map, its arguments and last what it answered: insert, remove, bulk insert, clear, and read of bytes
pub data Call : Type 0 where
  insert_call : ℤ → ℤ → ℕ → ℕ → Call
  remove_call : ℤ → ℤ → ℕ → Call
  extend_call : List ℤ → List ℤ → List ℕ → Applied → Call
  clear_call : Call
  read_call : List ℕ → ℕ → Call

-- a call that can change a set
pub data SetCall : Type 0 where
  set_insert_call : ℤ → ℤ → ℕ → SetCall
  set_remove_call : ℤ → ℤ → ℕ → SetCall
  set_extend_call : List ℤ → List ℤ → Applied → SetCall
  set_clear_call : SetCall

-- what a call did that answered a number: on 0 what it says, and else nothing
abbrev pub if_done : ℕ → Effect → Effect
if_done r x = cond (eqb r done) x (changed [])

-- one value, or none, given to a range
abbrev pub gave : ℤ → ℤ → Option ℕ → Effect
gave s e new = changed (record { start = s; end = e; new = new } ∷ [])

-- WHAT A CALL DID, by its arguments and its answer alone. Of a bulk insert the entries that it applied stay, refused or not; a read puts the ranges in its
-- bytes in place of all that was held
abbrev pub call_effect : Call → Effect
call_effect (insert_call s e v r) = if_done r (gave s e (some v))
call_effect (remove_call s e r) = if_done r (gave s e none)
call_effect (extend_call ss es vs t) = changed (map entry_change (take t.applied (entries ss es vs)))
call_effect clear_call = anew []
call_effect (read_call bs r) = if_done r (anew (map entry_change (entries_of (map_in rm01 bs))))

-- the same of a set, whose values are 0
abbrev pub set_call_effect : SetCall → Effect
set_call_effect (set_insert_call s e r) = if_done r (gave s e (some 0))
set_call_effect (set_remove_call s e r) = if_done r (gave s e none)
set_call_effect (set_extend_call ss es t) = changed (map entry_change (take t.applied (pairs ss es)))
set_call_effect set_clear_call = anew []

-- A REFUSED CALL: any number but 0. Bulk insert is no such call: it keeps its earlier entries; and clear is never refused
abbrev pub RefusedCall : Call → Type 0
RefusedCall (insert_call s e v r) = r ≡ done → ⊥
RefusedCall (remove_call s e r) = r ≡ done → ⊥
RefusedCall (extend_call ss es vs t) = ⊥
RefusedCall clear_call = ⊥
RefusedCall (read_call bs r) = r ≡ done → ⊥

-- the same of a set
abbrev pub RefusedSetCall : SetCall → Type 0
RefusedSetCall (set_insert_call s e r) = r ≡ done → ⊥
RefusedSetCall (set_remove_call s e r) = r ≡ done → ⊥
RefusedSetCall (set_extend_call ss es t) = ⊥
RefusedSetCall set_clear_call = ⊥

-- CALLS ONE AFTER THE OTHER make n of m: each meets its promise, from the struct that the one before left
unfoldable pub Calls : {S C : Type 0} → (C → S → S → Type 0) → List C → S → S → Type 0
Calls Promise [] m n = m ≡ n
Calls {S} Promise (c ∷ cs) m n = (next : S) × (Promise c m next × Calls Promise cs next n)

-- WHAT CALLS LEAVE OF A NEW STRUCT: n is made of one by calls one after the other
abbrev pub After : {S C : Type 0} → (S → Type 0) → (C → S → S → Type 0) → List C → S → Type 0
After {S} New Promise cs n = (new : S) × (New new × Calls Promise cs new n)

-- THE LAST VALUE that calls, in order, gave a key, or none; and old where they did not touch it
unfoldable pub last_given : {C : Type 0} → Kind → (C → Effect) → List C → ℤ → Option ℕ → Option ℕ
last_given kind did [] k old = old
last_given kind did (c ∷ cs) k old = last_given kind did cs k (left_at kind (did c) k old)

-- THE CHANGES that calls made, in order, behind those made before: a refused call made none, and a clear or a read begins anew
unfoldable pub changes_made : {C : Type 0} → (C → Effect) → List C → List Change → List Change
changes_made did [] before = before
changes_made did (c ∷ cs) before = changes_made did cs (cond (did c).fresh [] before ++ (did c).made)

-- what the answer of a lookup says of a key: 0 with the value that is held there, or 5
abbrev pub Says : Range → Option ℕ → Type 0
Says r (some v) = (r.answer ≡ done) × (r.value ≡ v)
Says r none = r.answer ≡ none_there
