use Prim.Native.Nat.{ℕ, ◌-◌, ◌≤◌, ◌<◌}
use borrow.Author.Rules.{rules}
use mathlib.Core.Path.{◌≡◌}
use mathlib.Core.Bool.{Bool, true, false, not}
use lib.ListN.{take, drop}
use lib.IntN.{ℤ}
use mir.Syntax.{w64}
use mir.Val.{to_z, of_z}
use Rattle.std.proofs.lemmas.Iterator.{IsFirst-from_position, YieldsList-from_slice}
use Rattle.key.specs.InnerDecides.{Decides}
use Rattle.key.specs.Rank.{rank}
use Rattle.key.specs.Range.{kind_of}
use Rattle.key.proofs.Laws.{rank_back}
use Rattle.store.proofs.Seeking.{passed, not_passed, found_none, found_some}
use Rattle.store.proofs.walk.first_past.Goals as goal

pub returns-in-Some : goal.returns-in-Some
returns-in-Some c =
    let a = c.args in
    let kind = kind_of a.kind in
    let end : ℕ = kind.past a.end in
    let read : ℤ → ℕ = λ z. rank (to_z w64 (of_z w64 z)) in
    let first = IsFirst-from_position _ _ c.position.result (λ z. end ≤ rank z) (λ z. rank z < end) c.position.ensures.ran (YieldsList-from_slice (take (a.count - a.from) (drop a.from a.starts.now)) cc)
    (λ x q k. let told : (r : Bool) × Decides r (read x.now < end) × (true ≡ not r) = search rules in passed (simp rank_back at told))
    (λ x q k. let told : (r : Bool) × Decides r (read x.now < end) × (false ≡ not r) = search rules in (search rules, not_passed (simp rank_back at told))) in
    found_some kind a.starts.now a.end a.from a.count c.requires.0 c.requires.1 c.in-Some.n (rw c.in-Some.is at first)

pub returns-in-None : goal.returns-in-None
returns-in-None c =
    let a = c.args in
    let kind = kind_of a.kind in
    let end : ℕ = kind.past a.end in
    let read : ℤ → ℕ = λ z. rank (to_z w64 (of_z w64 z)) in
    let first = IsFirst-from_position _ _ c.position.result (λ z. end ≤ rank z) (λ z. rank z < end) c.position.ensures.ran (YieldsList-from_slice (take (a.count - a.from) (drop a.from a.starts.now)) cc)
    (λ x q k. let told : (r : Bool) × Decides r (read x.now < end) × (true ≡ not r) = search rules in passed (simp rank_back at told))
    (λ x q k. let told : (r : Bool) × Decides r (read x.now < end) × (false ≡ not r) = search rules in (search rules, not_passed (simp rank_back at told))) in
    found_none kind a.starts.now a.end a.from a.count c.requires.0 c.requires.1 (rw c.in-None.is at first)
