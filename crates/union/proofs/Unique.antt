-- ONE ANSWER: the range that is taken next, and where the walk is once the first is taken.
use Prim.Native.Nat.{ℕ}
use native.Mathlib.Omega.{arith}
use mathlib.Core.Path.{◌≡◌, refl, sym, ap, ◌∙◌}
use mathlib.Core.Bool.{Bool, true, false, not}
use lib.IntN.{ℤ}
use mir.Syntax.{w64}
use mir.Val.{SFits, bool_byte}
use Rattle.key.specs.Rank.{rank}
use Rattle.key.specs.declared.RangeKind.{RangeKind}
use Rattle.outcomes.specs.declared.Stored.{Stored}
use Rattle.key.proofs.Answers.{one_answer}
use Rattle.key.proofs.Laws.{rank_inj}
use Rattle.two_sets.specs.declared.Position.{Position}
use Rattle.union.specs.InnerFound.{Takes, TakesNext, First}
use Rattle.union.specs.declared.walk.Taken.{Taken}

-- the keys of a range that is taken from a place
takes_alike : {m o : Stored} {k l : ℕ} (r t : Taken) → Takes m k o l r → Takes m k o l t
    → (rank r.start ≡ rank t.start) × (rank r.end ≡ rank t.end)
takes_alike r t x y = (one_answer x.start y.start, one_answer x.end y.end)

module _ {a b : Stored} {i j : ℕ} where
  -- the set that it is taken from: from both would be that each starts sooner
  one_set : (r t : Taken) → TakesNext a i b j r → TakesNext a i b j t → r.left ≡ true → t.left ≡ false → ⊥
  one_set r t x y f g =
      let here = (x.lefts f).there in
      let there = (y.rights g).there in
      omega (arith, x.sooner f there, (y.rights g).first here)

  set_alike : (r t : Taken) (f g : Bool) → TakesNext a i b j r → TakesNext a i b j t → r.left ≡ f → t.left ≡ g → f ≡ g
  set_alike r t true true x y f g = refl
  set_alike r t true false x y f g = absurd (one_set r t x y f g)
  set_alike r t false true x y f g = absurd (one_set t r y x g f)
  set_alike r t false false x y f g = refl

  keys_alike : (r t : Taken) (f : Bool) → TakesNext a i b j r → TakesNext a i b j t → r.left ≡ f → t.left ≡ f
      → (rank r.start ≡ rank t.start) × (rank r.end ≡ rank t.end)
  keys_alike r t true x y f g = takes_alike r t (x.lefts f) (y.lefts g)
  keys_alike r t false x y f g = takes_alike r t (x.rights f) (y.rights g)

  takes_next_one : (r t : Taken) → TakesNext a i b j r → TakesNext a i b j t
      → (r.left ≡ t.left) × (rank r.start ≡ rank t.start) × (rank r.end ≡ rank t.end)
  takes_next_one r t x y =
      let e : r.left ≡ t.left = set_alike r t r.left t.left x y refl refl in
      let k = keys_alike r t t.left x y e refl in
      (e, k.0, k.1)

abbrev position : ℕ → ℕ → ℕ → ℤ → ℤ → Position
position at i j start end = record { at = at; i = i; j = j; start = start; end = end }

-- WHERE THE WALK IS once the first range is taken
pub first_one : {kind : RangeKind} {a b : Stored} {r t : Position}
    → SFits w64 r.start → SFits w64 r.end → SFits w64 t.start → SFits w64 t.end
    → First kind a b r → First kind a b t → r ≡ t
first_one {r = r} {t = t} s e s' e' x y =
    let n = takes_next_one x.taken y.taken x.next y.next in
    let i : r.i ≡ t.i = x.in_left ∙ ap bool_byte n.0 ∙ sym y.in_left in
    let j : r.j ≡ t.j = x.in_right ∙ ap (λ (b : Bool). bool_byte (not b)) n.0 ∙ sym y.in_right in
    let from : r.start ≡ t.start = rank_inj s s' (x.start ∙ n.1 ∙ sym y.start) in
    let upto : r.end ≡ t.end = rank_inj e e' (x.end ∙ n.2 ∙ sym y.end) in
    ap (λ (k : ℕ). position k r.i r.j r.start r.end) (one_answer x.none_yet y.none_yet)
    ∙ ap (λ (k : ℕ). position t.at k r.j r.start r.end) i
    ∙ ap (λ (k : ℕ). position t.at t.i k r.start r.end) j
    ∙ ap (λ (k : ℤ). position t.at t.i t.j k r.end) from
    ∙ ap (position t.at t.i t.j t.start) upto
