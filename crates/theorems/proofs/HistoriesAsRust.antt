-- EQUAL TO THE RUST, of whole histories: for any calls from a new struct, through either door, accepted or refused, what the struct holds then, place by
-- place, is what rangemap's own algorithms hold that made the same changes of an empty map. So the theorems of AsRust, which speak of the ranges that
-- a struct holds, speak of what the Rust holds. A refused call made no change, and a clear or a read begins anew.
use Prim.Native.Nat.{ℕ, ◌-◌, ◌^◌, ◌≤◌}
use native.Mathlib.Omega.{arith}
use mathlib.Core.Path.{◌≡◌, refl, sym, ap, ◌∙◌}
use mathlib.Core.List.{List, [], ◌∷◌}
use mathlib.Core.Option.{Option, some, none}
use Rattle.span.specs.Span.{Edit, history, last}
use Rattle.span.proofs.Tests.{in_no}
use Rattle.span.proofs.Laws.{only, nothing, history_means}
use Rattle.key.specs.Rank.{keys}
use Rattle.key.specs.Range.{Kind, half_open, inclusive}
use Rattle.outcomes.specs.Stored.{ranges}
use Rattle.outcomes.specs.declared.Stored.{Stored}
use Rattle.outcomes.specs.Outcomes.{span_edits}
use Rattle.rust_algorithm.specs.InclusiveMap.{StepFns}
use Rattle.rust_algorithm.specs.Answers.{Functions, half_open_rust, inclusive_rust}
use Rattle.rust_algorithm.proofs.InclusiveHistory.{By}
use Rattle.rust_algorithm.proofs.Same.{Transcribed, half_open_map, inclusive_map}
use Rattle.rust_algorithm.proofs.Equal.{by_changes}
use Rattle.one_map.specs.Events.{Proper, Effect}
use Rattle.one_map.proofs.Known.{proper_tidy, each_instant, stored_again}
use Rattle.map.specs.declared.RangeMap.{RangeMap}
use Rattle.map.specs.Map as Map
use Rattle.inclusive_map.specs.declared.RangeInclusiveMap.{RangeInclusiveMap}
use Rattle.inclusive_map.specs.Map as InclusiveMap
use Rattle.set.specs.declared.RangeSet.{RangeSet}
use Rattle.set.specs.Set as Set
use Rattle.inclusive_set.specs.declared.RangeInclusiveSet.{RangeInclusiveSet}
use Rattle.inclusive_set.specs.Set as InclusiveSet
use Rattle.theorems.specs.Calls.{Call, call_effect, SetCall, set_call_effect, changes_made}
use Rattle.theorems.specs.Rust.{HistoryAsRust}
use Rattle.theorems.specs.Structs.{RangeMapAfter, RangeInclusiveMapAfter, RangeSetAfter, RangeInclusiveSetAfter}
use Rattle.theorems.proofs.Histories.{last_made, Histories}
use Rattle.theorems.proofs.Histories.{range_map_histories, range_inclusive_map_histories, range_set_histories, range_inclusive_set_histories}

-- edits that end by a limit leave nothing past it
last_past : (limit : ℕ) (es : List Edit) (k : ℕ) → By limit es → limit ≤ k → last es k none ≡ none
unfolding last
last_past limit [] k b h = refl
last_past limit (e ∷ es) k b h = rw (in_no e.lo e.hi k (λ w. omega arith)) (last_past limit es k b.1 h)

-- THE LAW, for any struct and the Rust of its kind
history_as_rust : {kind : Kind} {rust : Functions} → Transcribed kind rust → {S C : Type 0} {held : S → Stored} {Left : List C → S → Type 0} {did : C → Effect}
    {Good : Stored → Type 0} → Histories kind held Left did Good → ((m : Stored) → Good m → Proper kind m) → (cs : List C) (n : S) → Left cs n
    → HistoryAsRust kind rust (changes_made did cs []) (held n)
unfolding span_edits last
history_as_rust {kind} {rust} same {held = held} {did = did} law proper cs n left =
    let p = proper (held n) (law.good cs n left) in
    let es : List Edit = span_edits kind (changes_made did cs []) in
    let by : By keys es = by_changes kind rust same (changes_made did cs []) in
    let at_each =
    each_instant same.law p (λ k. last es k none) (λ k. last_past keys es k by) (λ k fit. law.last cs n k left ∙ last_made kind did cs [] k) in
    let is : history es [] ≡ ranges kind (held n) =
    only (history_means es (law.real cs n left) nothing) (record { tidy = proper_tidy p; holds = at_each }) in
    record {
      holds = same.same.history_same es [] (law.real cs n left) by (record { tidy = nothing.tidy; upto = tt }) ∙ ap some is;
      stores = sym (stored_again same.law p);
    }

-- half-open maps
pub range_map_history_as_rust : (cs : List Call) (n : RangeMap) → RangeMapAfter cs n
    → HistoryAsRust half_open half_open_rust (changes_made call_effect cs []) (Map.held n)
range_map_history_as_rust = history_as_rust half_open_map range_map_histories (λ m p. p)

-- sets of half-open ranges
pub range_set_history_as_rust : (cs : List SetCall) (n : RangeSet) → RangeSetAfter cs n
    → HistoryAsRust half_open half_open_rust (changes_made set_call_effect cs []) (Set.held n)
range_set_history_as_rust = history_as_rust half_open_map range_set_histories (λ m g. g.0)

-- with any steps that are right below the greatest key: `checked` and `wrapping` are i64's, in a build that checks and in one that does not
module _ (add-one sub-one : ℕ → Option ℕ) (steps : StepFns add-one sub-one (2 ^ 64 - 1)) where
  -- inclusive maps
  pub range_inclusive_map_history_as_rust : (cs : List Call) (n : RangeInclusiveMap) → RangeInclusiveMapAfter cs n
      → HistoryAsRust inclusive (inclusive_rust add-one sub-one) (changes_made call_effect cs []) (InclusiveMap.held n)
  range_inclusive_map_history_as_rust = history_as_rust (inclusive_map add-one sub-one steps) range_inclusive_map_histories (λ m p. p)

  -- sets of inclusive ranges
  pub range_inclusive_set_history_as_rust : (cs : List SetCall) (n : RangeInclusiveSet) → RangeInclusiveSetAfter cs n
      → HistoryAsRust inclusive (inclusive_rust add-one sub-one) (changes_made set_call_effect cs []) (InclusiveSet.held n)
  range_inclusive_set_history_as_rust = history_as_rust (inclusive_map add-one sub-one steps) range_inclusive_set_histories (λ m g. g.0)
