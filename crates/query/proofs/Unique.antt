-- ONE ANSWER of the walk, as far as its functions promise one: where it begins, what is seen and said there, the key of an edge, whether there is room,
-- and all that is written.
use Prim.Native.Nat.{ℕ, ◌<◌}
use native.Mathlib.Omega.{arith}
use mathlib.Core.Path.{◌≡◌, sym, ap, ◌∙◌}
use mathlib.Core.Bool.{Bool, true, false, not}
use mathlib.Core.List.{List, []}
use lib.IntN.{ℤ}
use mir.Syntax.{w64}
use mir.Val.{SFits}
use Rattle.span.specs.Span.{Span}
use Rattle.key.specs.Rank.{rank}
use Rattle.key.proofs.Answers.{one_answer, never, decides_one, neither_less}
use Rattle.key.proofs.Laws.{rank_inj}
use Rattle.range_list.proofs.Unique.{puts_one}
use Rattle.query_text.specs.declared.truth.Truth.{Truth}
use Rattle.query.specs.InnerSeen.{Sees}
use Rattle.query.specs.InnerWalk.{Stands, Begins, Cells, Edges}
use Rattle.query.specs.InnerWritten.{ToCome, Measures, Writes}
use Rattle.query.specs.declared.walk.Walk.{Walk}
use Rattle.query.specs.declared.walk.Cell.{Cell}

abbrev walk : ℤ → ℕ → ℕ → Walk
walk key a b = record { key = key; a = a; b = b }

-- a walk that stands in any two maps is at their first places
at_first : {w : Walk} → ((xs ys : List Span) → Stands xs ys w) → (w.a ≡ 0) × (w.b ≡ 0)
at_first s = (omega (arith, (s [] []).a.placed), omega (arith, (s [] []).b.placed))

-- WHERE A WALK BEGINS
pub begins_one : {v w : Walk} {key : ℤ} → Begins key v → Begins key w → v ≡ w
begins_one {v} {w} x y =
    let p = at_first x.1 in
    let q = at_first y.1 in
    ap (λ (k : ℤ). walk k v.a v.b) (one_answer x.0 y.0)
    ∙ ap (λ (i : ℕ). walk w.key i v.b) (one_answer p.0 q.0)
    ∙ ap (walk w.key w.a) (one_answer p.1 q.1)

-- WHAT IS SEEN in one map: its class. How far the look goes, and the place beside it, are free
pub sees_one : {xs : List Span} {p e u v m n i j : ℕ} → Sees xs p e u m i → Sees xs p e v n j → m ≡ n
sees_one {p = p} x y = sym (x.holds p (omega arith) x.on) ∙ y.holds p (omega arith) y.on

-- a bool is not its opposite
not_itself : (b : Bool) → b ≡ not b → ⊥
not_itself true e = never (sym e)
not_itself false e = never e

module _ {t : Truth} {xs ys : List Span} {p e : ℕ} where
  -- WHAT A CELL SAYS. How far it goes, and the places beside it, are free
  pub cells_one : {c d : Cell} → Cells t xs ys p e c → Cells t xs ys p e d → c.yes ≡ d.yes
  cells_one x y = sym (x.same p (omega arith) x.on) ∙ y.same p (omega arith) y.on

  -- THE KEY OF AN EDGE: the places beside it are free
  edge_less : {so : Bool} {v w : Walk} → Edges t xs ys p e so v → Edges t xs ys p e so w → rank v.key < rank w.key → ⊥
  edge_less {so} {v} x y h =
      not_itself so (sym (x.there (omega (arith, y.within))) ∙ y.before_it (rank v.key) x.on h)

  pub edges_one : {so : Bool} {v w : Walk} → SFits w64 v.key → SFits w64 w.key → Edges t xs ys p e so v → Edges t xs ys p e so w → v.key ≡ w.key
  edges_one f g x y = rank_inj f g (neither_less _ _ (edge_less x y) (edge_less y x))

-- WHETHER THERE IS ROOM, and what is written. A caller of either knows the list that is to come: each requires it
module _ (t : Truth) (xs ys : List Span) (p e : ℕ) {zs : List Span} (to_come : ToCome t xs ys p e zs) where
  pub measures_one : {room : ℕ} {r s : Bool} → Measures t xs ys p e room r → Measures t xs ys p e room s → r ≡ s
  measures_one x y = decides_one (x zs to_come) (y zs to_come)

  pub writes_one : {n r s : ℕ} {os oe ss es ss' es' : List ℤ} → Writes t xs ys p e n os oe r ss es → Writes t xs ys p e n os oe s ss' es'
      → (r ≡ s) × (ss ≡ ss') × (es ≡ es')
  writes_one x y = let l = puts_one (x.puts zs to_come) (y.puts zs to_come) in (one_answer (x.upto zs to_come) (y.upto zs to_come), l.0, l.1)
