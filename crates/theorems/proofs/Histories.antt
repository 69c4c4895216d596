-- HISTORIES OF CALLS, of each of the four structs: after any calls from a new struct each key holds the last value given it, or none, as lookup answers;
-- calls that agree on this leave the same struct; and a refused call leaves the struct as it was.
use Prim.Native.Nat.{ℕ}
use mathlib.Core.Path.{◌≡◌, refl, sym, ap, subst, ◌∙◌}
use mathlib.Core.Bool.{Bool, true, false, cond}
use mathlib.Core.List.{List, [], ◌∷◌, ◌++◌}
use mathlib.Core.Option.{Option, some, none}
use lib.IntN.{ℤ}
use mir.Syntax.{w64}
use mir.Val.{SFits}
use Rattle.std.specs.Prelude.{Err}
use Rattle.span.specs.Span.{Real, last}
use Rattle.key.specs.Rank.{rank}
use Rattle.key.specs.Range.{Kind, half_open, inclusive}
use Rattle.key.proofs.Lawful.{Lawful, half_open_lawful, inclusive_too}
use Rattle.outcomes.specs.declared.Stored.{Stored}
use Rattle.outcomes.specs.Outcomes.{entries, lookup, clear, Change, span_edits}
use Rattle.outcomes.specs.Numbers.{found_in_c}
use Rattle.outcomes.specs.Sets.{plain}
use Rattle.outcomes.specs.declared.Range.{Range}
use Rattle.outcomes.proofs.Sets.{if_set_lem}
use Rattle.one_map.specs.Events.{Proper, value_at, Effect, left_at}
use Rattle.one_map.proofs.Known.{some_found, lookup_found, none_found, same_lookups}
use Rattle.one_map.proofs.OneMap.{clear_proper, clear_holds}
use Rattle.one_map.proofs.Refusals.{read_unchanged}
use Rattle.one_map.proofs.SetHistories.{new_set}
use Rattle.map.specs.declared.RangeMap.{RangeMap}
use Rattle.map.specs.Map as Map
use Rattle.map.specs.Promises.{RangeMapGetKeyValue, RangeMapGetKeyValueUnchecked}
use Rattle.map.proofs.Held as OneMap
use Rattle.inclusive_map.specs.declared.RangeInclusiveMap.{RangeInclusiveMap}
use Rattle.inclusive_map.specs.Map as InclusiveMap
use Rattle.inclusive_map.specs.Promises.{RangeInclusiveMapGetKeyValue, RangeInclusiveMapGetKeyValueUnchecked}
use Rattle.inclusive_map.proofs.Held as OneInclusiveMap
use Rattle.set.specs.declared.RangeSet.{RangeSet}
use Rattle.set.specs.Set as Set
use Rattle.set.specs.Promises.{RangeSetGet}
use Rattle.set.proofs.Held as OneSet
use Rattle.inclusive_set.specs.declared.RangeInclusiveSet.{RangeInclusiveSet}
use Rattle.inclusive_set.specs.Set as InclusiveSet
use Rattle.inclusive_set.specs.Promises.{RangeInclusiveSetGet}
use Rattle.inclusive_set.proofs.Held as OneInclusiveSet
use Rattle.theorems.specs.Calls.{Call, insert_call, remove_call, extend_call, clear_call, read_call, call_effect, RefusedCall, Calls, After, last_given, Says}
use Rattle.theorems.specs.Calls.{changes_made}
use Rattle.theorems.specs.Calls.{SetCall, set_insert_call, set_remove_call, set_extend_call, set_clear_call, set_call_effect, RefusedSetCall}
use Rattle.theorems.specs.Structs.{RangeMapCall, RangeMapAfter, RangeInclusiveMapCall, RangeInclusiveMapAfter}
use Rattle.theorems.specs.Structs.{RangeSetCall, RangeSetAfter, RangeInclusiveSetCall, RangeInclusiveSetAfter}
use Rattle.theorems.proofs.Steps.{Step, insert_step, remove_step, either_door, extend_step, clear_step, read_step}
use Rattle.theorems.proofs.Steps.{SetStep, set_insert_step, set_remove_step, set_extend_step, set_clear_step}
use Rattle.theorems.proofs.Steps.{refused_same, either_refused, set_insert_refused, set_remove_refused}

-- WHAT CHANGES LEAVE, one after the other
module _ (kind : Kind) where
  -- changes behind others
  last_behind : (xs ys : List Change) (k : ℕ) (old : Option ℕ)
      → last (span_edits kind ys) k (last (span_edits kind xs) k old) ≡ last (span_edits kind (xs ++ ys)) k old
  unfolding last span_edits
  last_behind [] ys k old = refl
  last_behind (x ∷ xs) ys k old = last_behind xs ys k _

  -- and where those before may be gone
  last_both : (gone : Bool) (xs ys : List Change) (k : ℕ)
      → last (span_edits kind ys) k (cond gone none (last (span_edits kind xs) k none)) ≡ last (span_edits kind (cond gone [] xs ++ ys)) k none
  last_both true xs ys k = refl
  last_both false xs ys k = last_behind xs ys k none

  -- the last value that calls gave a key is what the last of their changes over it gave
  pub last_made : {C : Type 0} (did : C → Effect) (cs : List C) (before : List Change) (k : ℤ)
      → last_given kind did cs k (last (span_edits kind before) (rank k) none) ≡ last (span_edits kind (changes_made did cs before)) (rank k) none
  unfolding last_given changes_made left_at
  last_made did [] before k = refl
  last_made did (c ∷ cs) before k =
      ap (last_given kind did cs k) (last_both (did c).fresh before (did c).made (rank k)) ∙ last_made did cs (cond (did c).fresh [] before ++ (did c).made) k

  -- no change is empty where none is of those before and of those behind
  real_both : (gone : Bool) (xs ys : List Change) → Real (span_edits kind xs) → Real (span_edits kind ys) → Real (span_edits kind (cond gone [] xs ++ ys))
  unfolding span_edits
  real_both true xs ys r s = s
  real_both false [] ys r s = s
  real_both false (x ∷ xs) ys r s = (r.0, real_both false xs ys r.1 s)

-- THE LAW, for any struct: what calls leave of a new one. Good is what a struct keeps from call to call
pub record Histories {S C : Type 0} (kind : Kind) (held : S → Stored) (Left : List C → S → Type 0) (did : C → Effect) (Good : Stored → Type 0) : Type 0 where
  pub good : (cs : List C) (n : S) → Left cs n → Good (held n)
  pub last : (cs : List C) (n : S) (k : ℤ) → Left cs n → value_at kind (held n) k ≡ last_given kind did cs k none
  pub say : (cs : List C) (n : S) (k : ℤ) (r : Range) → Left cs n → r ≡ found_in_c (lookup kind (held n) k) → Says r (last_given kind did cs k none)
  pub same : (cs ds : List C) (n o : S) → Left cs n → Left ds o → ((k : ℤ) → SFits w64 k → last_given kind did cs k none ≡ last_given kind did ds k none)
      → held n ≡ held o
  pub real : (cs : List C) (n : S) → Left cs n → Real (span_edits kind (changes_made did cs []))

-- of a new struct, which holds nothing
abbrev Empty : {S : Type 0} → Kind → (S → Stored) → S → Type 0
Empty kind held m = held m ≡ clear kind

module _ {kind : Kind} (law : Lawful kind) {S C : Type 0} (held : S → Stored) (Promise : C → S → S → Type 0) (did : C → Effect) (Good : Stored → Type 0)
    (good-proper : (m : Stored) → Good m → Proper kind m) (Good-new : Good (clear kind))
    (step : (c : C) (m m' : S) → Good (held m) → Promise c m m' → Good (held m') × Step kind (did c) (held m) (held m')) where
  -- what calls leave is as good, and each key holds the last value that they gave it, or else what it held
  calls_hold : (cs : List C) (m n : S) → Good (held m) → Calls Promise cs m n
      → Good (held n) × ((k : ℤ) → value_at kind (held n) k ≡ last_given kind did cs k (value_at kind (held m) k))
  unfolding Calls last_given
  calls_hold [] m n g q = rw (sym q) (g, λ k. refl)
  calls_hold (c ∷ cs) m n g (next, (q, qs)) =
      let one = step c m next g q in
      let more = calls_hold cs next n one.0 qs in
      (more.0, λ k. more.1 k ∙ ap (last_given kind did cs k) (one.1.holds k))

  -- from a new struct
  calls_good : (cs : List C) (n : S) → After (Empty kind held) Promise cs n → Good (held n)
  calls_good cs n (m, (new, q)) = (calls_hold cs m n (subst Good (sym new) Good-new) q).0

  calls_last : (cs : List C) (n : S) (k : ℤ) → After (Empty kind held) Promise cs n → value_at kind (held n) k ≡ last_given kind did cs k none
  calls_last cs n k (m, (new, q)) =
      (calls_hold cs m n (subst Good (sym new) Good-new) q).1 k
      ∙ ap (last_given kind did cs k) (ap (λ (x : Stored). value_at kind x k) new ∙ clear_holds law k)

  calls_say : (cs : List C) (n : S) (k : ℤ) (r : Range) → After (Empty kind held) Promise cs n → r ≡ found_in_c (lookup kind (held n) k)
      → Says r (last_given kind did cs k none)
  calls_say cs n k r left look = says (last_given kind did cs k none) (calls_last cs n k left)
    where
      says : (o : Option ℕ) → value_at kind (held n) k ≡ o → Says r o
      says (some v) e = rw look (some_found (lookup kind (held n) k) e)
      says none e = ap (λ (x : Range). x.answer) (look ∙ ap found_in_c (none_found (good-proper (held n) (calls_good cs n left)) k e))

  calls_same : (cs ds : List C) (n o : S) → After (Empty kind held) Promise cs n → After (Empty kind held) Promise ds o
      → ((k : ℤ) → SFits w64 k → last_given kind did cs k none ≡ last_given kind did ds k none) → held n ≡ held o
  calls_same cs ds n o left left₂ agree =
      same_lookups law (good-proper (held n) (calls_good cs n left)) (good-proper (held o) (calls_good ds o left₂))
      (λ k fit. calls_last cs n k left ∙ agree k fit ∙ sym (calls_last ds o k left₂))

  -- no change that they made is of an empty range
  calls_real : (cs : List C) (m n : S) (before : List Change) → Good (held m) → Real (span_edits kind before) → Calls Promise cs m n
      → Real (span_edits kind (changes_made did cs before))
  unfolding Calls changes_made
  calls_real [] m n before g r q = r
  calls_real (c ∷ cs) m n before g r (next, (q, qs)) =
      let one = step c m next g q in
      calls_real cs next n (cond (did c).fresh [] before ++ (did c).made) one.0 (real_both kind (did c).fresh before (did c).made r one.1.real) qs

  histories : Histories kind held (After (Empty kind held) Promise) did Good
  histories = record {
    good = calls_good;
    last = calls_last;
    say = calls_say;
    same = calls_same;
    real = λ cs n (m, (new, q)). calls_real cs m n [] (subst Good (sym new) Good-new) (unfold span_edits in tt) q;
  }

-- a step of a map
of_map_lem : {kind : Kind} {did : Effect} {m m' : Stored} → Step kind did m m' → Proper kind m' × Step kind did m m'
of_map_lem t = (t.proper, t)

-- A SET keeps two things, and a step of it
abbrev pub GoodSet : Kind → Stored → Type 0
GoodSet kind m = Proper kind m × (plain m ≡ true)

of_set : {kind : Kind} {did : Effect} {m m' : Stored} → SetStep kind did m m' → GoodSet kind m' × Step kind did m m'
of_set t = ((t.as_map.proper, t.set_again), t.as_map)

-- THE HALF-OPEN MAP, call by call
pub range_map_step : (c : Call) (m m' : RangeMap) → Proper half_open (Map.held m) → RangeMapCall c m m'
    → Proper half_open (Map.held m') × Step half_open (call_effect c) (Map.held m) (Map.held m')
range_map_step (insert_call s e v r) m m' p q = of_map_lem (insert_step half_open_lawful p s e v (either_door half_open_lawful p s e (some v) q))
range_map_step (remove_call s e r) m m' p q = of_map_lem (remove_step half_open_lawful p s e (either_door half_open_lawful p s e none q))
range_map_step (extend_call ss es vs t) m m' p q = of_map_lem (extend_step half_open_lawful p (entries ss es vs) q)
range_map_step clear_call m m' p q = of_map_lem (clear_step half_open_lawful p q)
range_map_step (read_call bs r) m m' p q = of_map_lem (read_step p bs q)

-- the law of it
pub range_map_histories : Histories half_open Map.held RangeMapAfter call_effect (Proper half_open)
range_map_histories = histories half_open_lawful Map.held RangeMapCall call_effect (Proper half_open) (λ m p. p) (clear_proper half_open_lawful) range_map_step

-- after any calls from a new map, lookup answers of each key the last value given it, or 5 where there is none
pub range_map_last_value : (cs : List Call) (n : RangeMap) (k : ℤ) (r : Range) → RangeMapAfter cs n → RangeMapGetKeyValue n k r
    → Says r (last_given half_open call_effect cs k none)
range_map_last_value = range_map_histories.say

-- what they leave is well formed, with all its places, and is what an unchecked door requires
pub range_map_proper : (cs : List Call) (n : RangeMap) → RangeMapAfter cs n → Proper half_open (Map.held n)
range_map_proper = range_map_histories.good

-- and each key holds the last value given it
pub range_map_holds : (cs : List Call) (n : RangeMap) (k : ℤ) → RangeMapAfter cs n → value_at half_open (Map.held n) k ≡ last_given half_open call_effect cs k none
range_map_holds = range_map_histories.last

-- so the unchecked door of lookup answers the same
pub range_map_last_value_unchecked : (cs : List Call) (n : RangeMap) (k : ℤ) (r : Range) → RangeMapAfter cs n
    → RangeMapGetKeyValueUnchecked n k r → Says r (last_given half_open call_effect cs k none)
range_map_last_value_unchecked cs n k r left look =
    range_map_last_value cs n k r left (look ∙ ap found_in_c (sym (lookup_found (range_map_proper cs n left) k)))

-- two histories that agree at every key leave the same struct
pub range_map_same_struct : (cs ds : List Call) (n o : RangeMap) → RangeMapAfter cs n → RangeMapAfter ds o
    → ((k : ℤ) → SFits w64 k → last_given half_open call_effect cs k none ≡ last_given half_open call_effect ds k none) → n ≡ o
range_map_same_struct cs ds n o left left₂ agree = OneMap.held_one (range_map_histories.same cs ds n o left left₂ agree)

-- a refused call leaves the struct as it was
pub range_map_refused : (c : Call) (m m' : RangeMap) → RangeMapCall c m m' → RefusedCall c → m' ≡ m
range_map_refused (insert_call s e v r) m m' q n = OneMap.held_one (either_refused half_open (Map.held m) s e (some v) q n)
range_map_refused (remove_call s e r) m m' q n = OneMap.held_one (either_refused half_open (Map.held m) s e none q n)
range_map_refused (extend_call ss es vs t) m m' q n = absurd n
range_map_refused clear_call m m' q n = absurd n
range_map_refused (read_call bs r) m m' q n = OneMap.held_one (refused_same (read_unchanged (Map.held m) bs) q n)

-- THE INCLUSIVE MAP, call by call
range_inclusive_map_step : (c : Call) (m m' : RangeInclusiveMap) → Proper inclusive (InclusiveMap.held m) → RangeInclusiveMapCall c m m'
    → Proper inclusive (InclusiveMap.held m') × Step inclusive (call_effect c) (InclusiveMap.held m) (InclusiveMap.held m')
range_inclusive_map_step (insert_call s e v r) m m' p q = of_map_lem (insert_step inclusive_too p s e v (either_door inclusive_too p s e (some v) q))
range_inclusive_map_step (remove_call s e r) m m' p q = of_map_lem (remove_step inclusive_too p s e (either_door inclusive_too p s e none q))
range_inclusive_map_step (extend_call ss es vs t) m m' p q = of_map_lem (extend_step inclusive_too p (entries ss es vs) q)
range_inclusive_map_step clear_call m m' p q = of_map_lem (clear_step inclusive_too p q)
range_inclusive_map_step (read_call bs r) m m' p q = absurd q

-- the law of it
pub range_inclusive_map_histories : Histories inclusive InclusiveMap.held RangeInclusiveMapAfter call_effect (Proper inclusive)
range_inclusive_map_histories =
    histories inclusive_too InclusiveMap.held RangeInclusiveMapCall call_effect (Proper inclusive) (λ m p. p) (clear_proper inclusive_too)
    range_inclusive_map_step

-- after any calls from a new map, lookup answers of each key the last value given it, or 5 where there is none
pub range_inclusive_map_last_value : (cs : List Call) (n : RangeInclusiveMap) (k : ℤ) (r : Range) → RangeInclusiveMapAfter cs n
    → RangeInclusiveMapGetKeyValue n k r → Says r (last_given inclusive call_effect cs k none)
range_inclusive_map_last_value = range_inclusive_map_histories.say

-- what they leave is well formed, with all its places, and is what an unchecked door requires
pub range_inclusive_map_proper : (cs : List Call) (n : RangeInclusiveMap) → RangeInclusiveMapAfter cs n → Proper inclusive (InclusiveMap.held n)
range_inclusive_map_proper = range_inclusive_map_histories.good

-- so the unchecked door of lookup answers the same
pub range_inclusive_map_last_value_unchecked : (cs : List Call) (n : RangeInclusiveMap) (k : ℤ) (r : Range) → RangeInclusiveMapAfter cs n
    → RangeInclusiveMapGetKeyValueUnchecked n k r → Says r (last_given inclusive call_effect cs k none)
range_inclusive_map_last_value_unchecked cs n k r left look =
    range_inclusive_map_last_value cs n k r left (look ∙ ap found_in_c (sym (lookup_found (range_inclusive_map_proper cs n left) k)))

-- two histories that agree at every key leave the same struct
pub range_inclusive_map_same_struct : (cs ds : List Call) (n o : RangeInclusiveMap) → RangeInclusiveMapAfter cs n → RangeInclusiveMapAfter ds o
    → ((k : ℤ) → SFits w64 k → last_given inclusive call_effect cs k none ≡ last_given inclusive call_effect ds k none) → n ≡ o
range_inclusive_map_same_struct cs ds n o left left₂ agree = OneInclusiveMap.held_one (range_inclusive_map_histories.same cs ds n o left left₂ agree)

-- a refused call leaves the struct as it was
pub range_inclusive_map_refused : (c : Call) (m m' : RangeInclusiveMap) → RangeInclusiveMapCall c m m' → RefusedCall c → m' ≡ m
range_inclusive_map_refused (insert_call s e v r) m m' q n = OneInclusiveMap.held_one (either_refused inclusive (InclusiveMap.held m) s e (some v) q n)
range_inclusive_map_refused (remove_call s e r) m m' q n = OneInclusiveMap.held_one (either_refused inclusive (InclusiveMap.held m) s e none q n)
range_inclusive_map_refused (extend_call ss es vs t) m m' q n = absurd n
range_inclusive_map_refused clear_call m m' q n = absurd n
range_inclusive_map_refused (read_call bs r) m m' q n = absurd q

-- THE SET OF HALF-OPEN RANGES, call by call
range_set_step : (c : SetCall) (m m' : RangeSet) → GoodSet half_open (Set.held m) → RangeSetCall c m m'
    → GoodSet half_open (Set.held m') × Step half_open (set_call_effect c) (Set.held m) (Set.held m')
range_set_step (set_insert_call s e r) m m' (p, z) q = of_set (set_insert_step half_open_lawful p z s e q)
range_set_step (set_remove_call s e r) m m' (p, z) q = of_set (set_remove_step half_open_lawful p z s e q)
range_set_step (set_extend_call ss es t) m m' (p, z) q = of_set (set_extend_step half_open_lawful p z ss es q)
range_set_step set_clear_call m m' (p, z) q = of_set (set_clear_step half_open_lawful p z q)

-- the law of it
pub range_set_histories : Histories half_open Set.held RangeSetAfter set_call_effect (GoodSet half_open)
range_set_histories =
    histories half_open_lawful Set.held RangeSetCall set_call_effect (GoodSet half_open) (λ m g. g.0) (clear_proper half_open_lawful, new_set half_open_lawful) range_set_step

-- what calls leave is a set: well formed, with all its places, and no value but 0
pub range_set_good : (cs : List SetCall) (n : RangeSet) → RangeSetAfter cs n → Proper half_open (Set.held n) × (plain (Set.held n) ≡ true)
range_set_good = range_set_histories.good

-- after any calls from a new set, lookup answers 0 of each key that the last call over it covered, and 5 of any other
pub range_set_last_value : (cs : List SetCall) (n : RangeSet) (k : ℤ) (r : Range) → RangeSetAfter cs n → RangeSetGet n k r
    → Says r (last_given half_open set_call_effect cs k none)
range_set_last_value cs n k r left look =
    let set = (range_set_histories.good cs n left).1 in
    range_set_histories.say cs n k r left (look ∙ ap found_in_c (if_set_lem (Set.held n) Err set))

-- two histories that agree at every key leave the same struct
pub range_set_same_struct : (cs ds : List SetCall) (n o : RangeSet) → RangeSetAfter cs n → RangeSetAfter ds o
    → ((k : ℤ) → SFits w64 k → last_given half_open set_call_effect cs k none ≡ last_given half_open set_call_effect ds k none) → n ≡ o
range_set_same_struct cs ds n o left left₂ agree = OneSet.held_one (range_set_histories.same cs ds n o left left₂ agree)

-- a refused call leaves the struct as it was
pub range_set_refused : (c : SetCall) (m m' : RangeSet) → RangeSetCall c m m' → RefusedSetCall c → m' ≡ m
range_set_refused (set_insert_call s e r) m m' q n = OneSet.held_one (set_insert_refused half_open (Set.held m) s e q n)
range_set_refused (set_remove_call s e r) m m' q n = OneSet.held_one (set_remove_refused half_open (Set.held m) s e q n)
range_set_refused (set_extend_call ss es t) m m' q n = absurd n
range_set_refused set_clear_call m m' q n = absurd n

-- THE SET OF INCLUSIVE RANGES, call by call
range_inclusive_set_step : (c : SetCall) (m m' : RangeInclusiveSet) → GoodSet inclusive (InclusiveSet.held m) → RangeInclusiveSetCall c m m'
    → GoodSet inclusive (InclusiveSet.held m') × Step inclusive (set_call_effect c) (InclusiveSet.held m) (InclusiveSet.held m')
range_inclusive_set_step (set_insert_call s e r) m m' (p, z) q = of_set (set_insert_step inclusive_too p z s e q)
range_inclusive_set_step (set_remove_call s e r) m m' (p, z) q = of_set (set_remove_step inclusive_too p z s e q)
range_inclusive_set_step (set_extend_call ss es t) m m' (p, z) q = of_set (set_extend_step inclusive_too p z ss es q)
range_inclusive_set_step set_clear_call m m' (p, z) q = of_set (set_clear_step inclusive_too p z q)

-- the law of it
pub range_inclusive_set_histories : Histories inclusive InclusiveSet.held RangeInclusiveSetAfter set_call_effect (GoodSet inclusive)
range_inclusive_set_histories =
    histories inclusive_too InclusiveSet.held RangeInclusiveSetCall set_call_effect (GoodSet inclusive) (λ m g. g.0)
    (clear_proper inclusive_too, new_set inclusive_too) range_inclusive_set_step

-- what calls leave is a set
pub range_inclusive_set_good : (cs : List SetCall) (n : RangeInclusiveSet) → RangeInclusiveSetAfter cs n
    → Proper inclusive (InclusiveSet.held n) × (plain (InclusiveSet.held n) ≡ true)
range_inclusive_set_good = range_inclusive_set_histories.good

-- after any calls from a new set, lookup answers 0 of each key that the last call over it covered, and 5 of any other
pub range_inclusive_set_last_value : (cs : List SetCall) (n : RangeInclusiveSet) (k : ℤ) (r : Range) → RangeInclusiveSetAfter cs n → RangeInclusiveSetGet n k r
    → Says r (last_given inclusive set_call_effect cs k none)
range_inclusive_set_last_value cs n k r left look =
    let set = (range_inclusive_set_histories.good cs n left).1 in
    range_inclusive_set_histories.say cs n k r left (look ∙ ap found_in_c (if_set_lem (InclusiveSet.held n) Err set))

-- two histories that agree at every key leave the same struct
pub range_inclusive_set_same_struct : (cs ds : List SetCall) (n o : RangeInclusiveSet) → RangeInclusiveSetAfter cs n → RangeInclusiveSetAfter ds o
    → ((k : ℤ) → SFits w64 k → last_given inclusive set_call_effect cs k none ≡ last_given inclusive set_call_effect ds k none) → n ≡ o
range_inclusive_set_same_struct cs ds n o left left₂ agree = OneInclusiveSet.held_one (range_inclusive_set_histories.same cs ds n o left left₂ agree)

-- a refused call leaves the struct as it was
pub range_inclusive_set_refused : (c : SetCall) (m m' : RangeInclusiveSet) → RangeInclusiveSetCall c m m' → RefusedSetCall c → m' ≡ m
range_inclusive_set_refused (set_insert_call s e r) m m' q n = OneInclusiveSet.held_one (set_insert_refused inclusive (InclusiveSet.held m) s e q n)
range_inclusive_set_refused (set_remove_call s e r) m m' q n = OneInclusiveSet.held_one (set_remove_refused inclusive (InclusiveSet.held m) s e q n)
range_inclusive_set_refused (set_extend_call ss es t) m m' q n = absurd n
range_inclusive_set_refused set_clear_call m m' q n = absurd n

-- THE STRUCT that stores a map: a half-open map
abbrev pub range_map_of : Stored → RangeMap
range_map_of x = record { stored = x }

-- an inclusive map
abbrev pub range_inclusive_map_of : Stored → RangeInclusiveMap
range_inclusive_map_of x = record { stored = x }

-- a set of half-open ranges
abbrev pub range_set_of : Stored → RangeSet
range_set_of x = record { stored = x }

-- a set of inclusive ranges
abbrev pub range_inclusive_set_of : Stored → RangeInclusiveSet
range_inclusive_set_of x = record { stored = x }
