-- BULK INSERT IS SO MANY SINGLE INSERTS: of a well-formed map it leaves what its first entries leave, as many as it tells that it applied, each inserted by a
-- call that answered 0. So a refused bulk insert keeps its earlier entries, and nothing else.
use Prim.Native.Nat.{ℕ, zero, suc}
use mathlib.Core.Path.{◌≡◌, refl, sym, ap, subst, ◌∙◌}
use mathlib.Core.Bool.{true}
use mathlib.Core.Logic.{inl}
use mathlib.Core.List.{List, [], ◌∷◌, map}
use mathlib.Core.Option.{some}
use borrow.Author.Tests.{eq-eqb}
use lib.ListN.{take}
use lib.IntN.{ℤ}
use Rattle.answers.specs.Answers.{done}
use Rattle.answers.specs.Refusals.{number}
use Rattle.key.specs.Range.{Kind, half_open, inclusive}
use Rattle.key.proofs.Lawful.{Lawful, half_open_lawful, inclusive_too}
use Rattle.outcomes.specs.declared.Stored.{Stored}
use Rattle.outcomes.specs.Outcomes.{entry_change, Edited, leaving, Extended, extended, entries, edit, edits, insert, bulk_insert}
use Rattle.key.specs.declared.Entry.{Entry}
use Rattle.outcomes.specs.declared.Applied.{Applied}
use Rattle.outcomes.specs.Sets.{plain, if_set, pairs}
use Rattle.outcomes.proofs.Edits.{none_refused}
use Rattle.one_map.specs.Events.{Proper, happens}
use Rattle.one_map.specs.SetEvents.{set_insert_event, of_map}
use Rattle.one_map.proofs.OneMap.{edit_proper}
use Rattle.one_map.proofs.Histories.{bulk_leaves}
use Rattle.one_map.proofs.SetHistories.{set_as_map, set_stays}
use Rattle.map.specs.declared.RangeMap.{RangeMap}
use Rattle.map.specs.Map as Map
use Rattle.map.specs.Promises.{RangeMapExtend}
use Rattle.map.proofs.Held as OneMap
use Rattle.inclusive_map.specs.declared.RangeInclusiveMap.{RangeInclusiveMap}
use Rattle.inclusive_map.specs.Map as InclusiveMap
use Rattle.inclusive_map.specs.Promises.{RangeInclusiveMapExtend}
use Rattle.inclusive_map.proofs.Held as OneInclusiveMap
use Rattle.set.specs.declared.RangeSet.{RangeSet}
use Rattle.set.specs.Set as Set
use Rattle.set.specs.Promises.{RangeSetExtend}
use Rattle.set.proofs.Held as OneSet
use Rattle.inclusive_set.specs.declared.RangeInclusiveSet.{RangeInclusiveSet}
use Rattle.inclusive_set.specs.Set as InclusiveSet
use Rattle.inclusive_set.specs.Promises.{RangeInclusiveSetExtend}
use Rattle.inclusive_set.proofs.Held as OneInclusiveSet
use Rattle.theorems.specs.Calls.{Call, insert_call, SetCall, set_insert_call, Calls}
use Rattle.theorems.specs.Structs.{RangeMapCall, RangeInclusiveMapCall, RangeSetCall, RangeInclusiveSetCall}
use Rattle.theorems.proofs.Steps.{as_bulk}
use Rattle.theorems.proofs.Histories.{GoodSet, range_map_of, range_inclusive_map_of, range_set_of, range_inclusive_set_of}

-- the call that inserts an entry into a map, answered with 0
abbrev pub insert_of : Entry → Call
insert_of x = insert_call x.start x.end x.value done

-- the call that inserts its range into a set, answered with 0
abbrev pub set_insert_of : Entry → SetCall
set_insert_of x = set_insert_call x.start x.end done

-- what the insert of an entry answers and leaves
abbrev inserting : Kind → Stored → Entry → Edited
inserting kind m x = edit kind m x.start x.end (some x.value)

-- all entries are as some test says
abbrev Each : (Entry → Type 0) → List Entry → Type 0
Each Fit [] = Unit {0}
Each Fit (x ∷ xs) = Fit x × Each Fit xs

-- THE LAW, for a struct of either kind: Fit is what its entries are, Good what it keeps from call to call
module _ {kind : Kind} (law : Lawful kind) {S C : Type 0} (held : S → Stored) (struct : Stored → S) (struct_Holds : (x : Stored) → held (struct x) ≡ x)
    (held_one : (a b : S) → held a ≡ held b → a ≡ b) (Promise : C → S → S → Type 0) (call : Entry → C) (Fit : Entry → Type 0) (Good : Stored → Type 0)
    (inserted : (x : Entry) (m : S) → Fit x → Good (held m) → (inserting kind (held m) x).answer ≡ 0
    → Promise (call x) m (struct (inserting kind (held m) x).left) × Good (inserting kind (held m) x).left) where
  -- inserts of which none is refused are calls one after the other
  inserts_called : (xs : List Entry) (m n : S) → Each Fit xs → Good (held m) → edits kind (held m) (map entry_change xs) ≡ leaving done (held n)
      → Calls Promise (map call xs) m n
  unfolding Calls edits
  inserts_called [] m n fit g q = held_one m n (ap (λ (o : Edited). o.left) q)
  inserts_called (x ∷ xs) m n fit g q =
      let one = inserting kind (held m) x in
      let next = struct one.left in
      let first : one.answer ≡ 0 = (none_refused one (edits kind one.left (map entry_change xs)) (ap (λ (o : Edited). o.answer) q)).0 in
      let others : edits kind one.left (map entry_change xs) ≡ leaving done (held n) = rw (eq-eqb one.answer 0 first) at q in
      let is = struct_Holds one.left in
      let (meets, again) = inserted x m fit.0 g first in
      (next, (meets, inserts_called xs next n fit.1 (subst Good (sym is) again) (ap (λ (y : Stored). edits kind y (map entry_change xs)) is ∙ others)))

  -- and so is a bulk insert of a well-formed map
  bulk_called : (xs : List Entry) (m m' : S) (t : Applied) → Each Fit (take t.applied xs) → Good (held m) → Proper kind (held m)
      → extended t (held m') ≡ bulk_insert kind (held m) xs → Calls Promise (map call (take t.applied xs)) m m'
  bulk_called xs m m' t fit g p q =
      let told : (bulk_insert kind (held m) xs).told ≡ t = sym (ap (λ (o : Extended). o.told) q) in
      let left : (bulk_insert kind (held m) xs).left ≡ held m' = sym (ap (λ (o : Extended). o.left) q) in
      inserts_called (take t.applied xs) m m' fit g
      (ap (λ (u : Applied). edits kind (held m) (map entry_change (take u.applied xs))) (sym told) ∙ bulk_leaves law p xs ∙ ap (leaving done) left)

-- OF MAPS: any entry fits, and a map keeps nothing
abbrev Any : {A : Type 0} → A → Type 0
Any a = Unit {0}

any_each : (xs : List Entry) → Each Any xs
any_each [] = tt
any_each (x ∷ xs) = (tt, any_each xs)

-- what answered 0 left what it left with 0
with_zero : {o : Edited} → o.answer ≡ 0 → leaving done o.left ≡ o
with_zero {o} z = ap (λ (k : ℕ). leaving k o.left) (sym z)

-- half-open maps
pub range_map_extend_inserts : (m m' : RangeMap) (starts ends : List ℤ) (values : List ℕ) (t : Applied) → Proper half_open (Map.held m)
    → RangeMapExtend m m' starts ends values t → Calls RangeMapCall (map insert_of (take t.applied (entries starts ends values))) m m'
range_map_extend_inserts m m' starts ends values t p q =
    bulk_called half_open_lawful Map.held range_map_of (λ x. refl) (λ a b e. OneMap.held_one e) RangeMapCall insert_of Any Any
    (λ x m fit g z. (inl (with_zero z), tt)) (entries starts ends values) m m' t (any_each (take t.applied (entries starts ends values))) tt p q

-- inclusive maps
pub range_inclusive_map_extend_inserts : (m m' : RangeInclusiveMap) (starts ends : List ℤ) (values : List ℕ) (t : Applied)
    → Proper inclusive (InclusiveMap.held m) → RangeInclusiveMapExtend m m' starts ends values t
    → Calls RangeInclusiveMapCall (map insert_of (take t.applied (entries starts ends values))) m m'
range_inclusive_map_extend_inserts m m' starts ends values t p q =
    bulk_called inclusive_too InclusiveMap.held range_inclusive_map_of (λ x. refl) (λ a b e. OneInclusiveMap.held_one e) RangeInclusiveMapCall insert_of Any Any
    (λ x m fit g z. (inl (with_zero z), tt)) (entries starts ends values) m m' t (any_each (take t.applied (entries starts ends values))) tt p q

-- OF SETS: entries have the value 0, and a set stays a well-formed set
abbrev IsZero : Entry → Type 0
IsZero x = x.value ≡ 0

pairs_zero : (n : ℕ) (ss es : List ℤ) → Each IsZero (take n (pairs ss es))
unfolding pairs
pairs_zero zero ss es = tt
pairs_zero (suc n) [] es = tt
pairs_zero (suc n) (s ∷ ss) [] = tt
pairs_zero (suc n) (s ∷ ss) (e ∷ es) = (refl, pairs_zero n ss es)

-- the insert of a range into a set, answered with 0
set_inserted : {kind : Kind} → Lawful kind → (x : Entry) (m : Stored) → IsZero x → GoodSet kind m → (inserting kind m x).answer ≡ 0
    → (leaving done (inserting kind m x).left ≡ if_set m (insert kind m x.start x.end 0) (λ why. leaving (number why) m)) × GoodSet kind (inserting kind m x).left
set_inserted {kind} law x m v (p, z) done-is =
    let event = set_insert_event x.start x.end in
    let is : inserting kind m x ≡ happens (of_map kind event) m = ap (λ (k : ℕ). edit kind m x.start x.end (some k)) v in
    let again : plain (inserting kind m x).left ≡ true = ap (λ (o : Edited). plain o.left) is ∙ set_stays law event p z in
    (with_zero done-is ∙ is ∙ sym (set_as_map kind event m z), (edit_proper law p x.start x.end (some x.value) done-is, again))

-- sets of half-open ranges
pub range_set_extend_inserts : (m m' : RangeSet) (starts ends : List ℤ) (t : Applied) → GoodSet half_open (Set.held m)
    → RangeSetExtend m m' starts ends t → Calls RangeSetCall (map set_insert_of (take t.applied (pairs starts ends))) m m'
range_set_extend_inserts m m' starts ends t (p, z) q =
    bulk_called half_open_lawful Set.held range_set_of (λ x. refl) (λ a b e. OneSet.held_one e) RangeSetCall set_insert_of IsZero (GoodSet half_open)
    (λ x m. set_inserted half_open_lawful x (Set.held m)) (pairs starts ends) m m' t (pairs_zero t.applied starts ends) (p, z) p
    (q ∙ as_bulk half_open (Set.held m) (pairs starts ends) z)

-- sets of inclusive ranges
pub range_inclusive_set_extend_inserts : (m m' : RangeInclusiveSet) (starts ends : List ℤ) (t : Applied) → GoodSet inclusive (InclusiveSet.held m)
    → RangeInclusiveSetExtend m m' starts ends t → Calls RangeInclusiveSetCall (map set_insert_of (take t.applied (pairs starts ends))) m m'
range_inclusive_set_extend_inserts m m' starts ends t (p, z) q =
    bulk_called inclusive_too InclusiveSet.held range_inclusive_set_of (λ x. refl) (λ a b e. OneInclusiveSet.held_one e) RangeInclusiveSetCall set_insert_of
    IsZero (GoodSet inclusive) (λ x m. set_inserted inclusive_too x (InclusiveSet.held m)) (pairs starts ends) m m' t (pairs_zero t.applied starts ends)
    (p, z) p (q ∙ as_bulk inclusive (InclusiveSet.held m) (pairs starts ends) z)
