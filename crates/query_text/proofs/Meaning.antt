-- What the two maps hold at an instant matters by its class alone.
use Prim.Native.Nat.{ℕ, ◌≤◌, min}
use mathlib.Core.Path.{◌≡◌, refl, sym}
use mathlib.Core.Bool.{Bool, true, false}
use mathlib.Core.Option.{Option, some, none}
use mathlib.Core.List.{List}
use native.Mathlib.Omega.{arith}
use borrow.Author.Tests.{eq-eqb, eqb-true}
use lib.Dec.{eqb}
use Rattle.query_text.specs.Grammar.{Query, Level, Spells, in_first, in_second, negated, grouped, a_factor, and_term, a_term, or_sum}
use Rattle.query_text.specs.Meaning.{holds_value, truth}
use Rattle.query_text.specs.InnerClasses.{class_of, class_truth}

-- two tests that follow from each other are one
same_test : (a b : Bool) → (a ≡ true → b ≡ true) → (b ≡ true → a ≡ true) → a ≡ b
same_test true b f g = sym (f refl)
same_test false true f g = g refl
same_test false false f g = refl

class_holds : (d : ℕ) (x : Option ℕ) → d ≤ 9 → eqb (class_of x) d ≡ holds_value d x
class_holds d none h = same_test (eqb 10 d) false (λ e. let z = eqb-true 10 d e in absurd (omega arith))
    (λ e. let z : ◌≡◌ {A = ℕ} 0 1 = cc in absurd (omega arith))
class_holds d (some v) h = same_test (eqb (min v 10) d) (eqb v d)
    (λ e. let z = eqb-true (min v 10) d e in eq-eqb v d (omega arith))
    (λ e. let z = eqb-true v d e in eq-eqb (min v 10) d (omega arith))

pub by_class : {l : Level} {n : ℕ} {w : List ℕ} {q : Query} → Spells l n w q → (x y : Option ℕ) → class_truth q (class_of x) (class_of y) ≡ truth q x y
unfolding truth class_truth
by_class (in_first {n} {d} h) x y = class_holds d x h
by_class (in_second {n} {d} h) x y = class_holds d y h
by_class (negated s) x y = rw (by_class s x y)
by_class (grouped s) x y = by_class s x y
by_class (a_factor s) x y = by_class s x y
by_class (and_term s t) x y = rw (by_class s x y, by_class t x y)
by_class (a_term s) x y = by_class s x y
by_class (or_sum s t) x y = rw (by_class s x y, by_class t x y)
