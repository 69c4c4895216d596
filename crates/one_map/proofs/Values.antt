-- THE VALUES OF A MAP are those that it was given: what is true of every value that an event gives, and of 0, stays true of all places. So a set stays a set,
-- and a value that is a u8 stays one.
use Prim.Native.Nat.{ℕ}
use native.Mathlib.Omega.{arith}
use native.Mathlib.Decide.{dec_lt}
use mathlib.Core.Path.{◌≡◌, sym, ap, subst, ◌∙◌}
use mathlib.Core.Bool.{Bool, true, false, cond}
use mathlib.Core.List.{List, [], ◌∷◌}
use mathlib.Core.Option.{Option, some, none}
use borrow.Author.Tests.{eqb-true}
use lib.Dec.{eqb}
use lib.ListN.{length, get_or}
use Rattle.span.specs.Span.{Span, span, inside, at, last}
use Rattle.span.proofs.Tests.{cases}
use Rattle.span.proofs.Pieces.{places_tidy, at_place}
use Rattle.key.specs.Rank.{rank}
use Rattle.key.specs.Range.{Kind}
use Rattle.key.proofs.Lawful.{Lawful}
use Rattle.outcomes.specs.Stored.{ranges}
use Rattle.outcomes.specs.declared.Stored.{Stored}
use Rattle.outcomes.specs.Outcomes.{Edited, Change, span_edits}
use Rattle.outcomes.proofs.Formed.{shape, good, length_ranges, get_or_ranges}
use Rattle.one_map.specs.Events.{Proper, Event, happens, Effect, if_accepted, effect}
use Rattle.one_map.proofs.Known.{proper_tidy}
use Rattle.one_map.proofs.Histories.{event_left}

module _ (P : ℕ → Type 0) where
  -- a value of which P is true, or none
  abbrev pub Gives : Option ℕ → Type 0
  Gives none = Unit {0}
  Gives (some v) = P v

  -- all changes give such a value, or none
  abbrev pub AllGive : List Change → Type 0
  AllGive [] = Unit {0}
  AllGive (c ∷ cs) = Gives c.new × AllGive cs

  -- P of all that an instant holds
  abbrev pub Holds : Kind → Stored → Type 0
  Holds kind m = (k : ℕ) → Gives (at (ranges kind m) k)

  gives_either : (t : Bool) (new old : Option ℕ) → Gives new → Gives old → Gives (cond t new old)
  gives_either true new old a b = a
  gives_either false new old a b = b

  last_gives : (kind : Kind) (cs : List Change) (k : ℕ) (old : Option ℕ) → AllGive cs → Gives old → Gives (last (span_edits kind cs) k old)
  unfolding span_edits last
  last_gives kind [] k old a b = b
  last_gives kind (c ∷ cs) k old a b =
      last_gives kind cs k _ a.1 (gives_either (inside (rank c.start) (kind.past c.end) k) c.new old a.0 b)

  -- an event that gives such values to a map that holds such values leaves such values
  pub event_values : {kind : Kind} → Lawful kind → (x : Event kind) {m : Stored} → Proper kind m → AllGive (effect x m).made → Holds kind m
      → Holds kind (happens x m).left
  event_values {kind} law x {m} p a h k =
      let d = effect x m in
      subst Gives (sym ((event_left law x p).holds k)) (last_gives kind d.made k _ a (gives_either d.fresh none (at (ranges kind m) k) tt (h k)))

  -- what is refused gives nothing
  pub accepted_gives : (o : Edited) (x : Effect) → (o.answer ≡ 0 → AllGive x.made) → AllGive (if_accepted o x).made
  accepted_gives o x a = cases (eqb o.answer 0) (λ (y : Effect). AllGive y.made) (λ e. a (eqb-true o.answer 0 e)) (λ e. tt)

  -- P of all places of a map: those in use hold what some instant holds, the others 0
  pub all_values : {kind : Kind} {m : Stored} → Proper kind m → P 0 → Holds kind m → (k : ℕ) → P (get_or m.values k 0)
  all_values {kind} {m} p zero h k = elim (dec_lt k m.count) [
    | yes q ↦
        let held = (good p.sound).held in
        let many = length_ranges kind (length m.starts) m (shape p.sound) held in
        let x = get_or (ranges kind m) k (span 0 0 0) in
        let is = get_or_ranges kind (length m.starts) m (shape p.sound) held k (span 0 0 0) q in
        let full = (places_tidy (span 0 0 0) (proper_tidy p)).full k (omega arith) in
        let there : at (ranges kind m) x.lo ≡ some (get_or m.values k 0) =
        at_place 0 (span 0 0 0) (ranges kind m) k x.lo (proper_tidy p).ordered (omega arith) (omega arith) ∙ ap (λ (y : Span). some y.label) is in
        subst Gives there (h x.lo)
    | no q ↦ subst P (sym ((good p.sound).values k (omega arith))) zero
  ]
