-- ONE ANSWER of each function that helps to make a plan, and one plan.
use Prim.Native.Nat.{ℕ, ◌<◌}
use native.Mathlib.Omega.{arith}
use native.Mathlib.Decide.{dec_lt}
use mathlib.Core.Path.{◌≡◌, refl, sym, ap, ◌∙◌}
use mathlib.Core.Bool.{Bool}
use mathlib.Core.List.{List, [], ◌∷◌}
use mathlib.Core.Option.{Option}
use lib.ListN.{length, get_or}
use lib.Seq.{length-take-le, get_or-take}
use lib.IntN.{ℤ, pos}
use Rattle.key.specs.Rank.{rank}
use Rattle.key.specs.Range.{Kind}
use Rattle.key.proofs.Answers.{one_answer, neither_less}
use Rattle.key.proofs.Laws.{rank_inj}
use Rattle.key.specs.declared.Entry.{Entry}
use Rattle.splice.specs.declared.Replacement.{Replacement}
use Rattle.edit.specs.InnerPlan.{LeastEnd, GreatestStart, Beside, b_clear, b_joined, b_kept, Brings}
use Rattle.outcomes.specs.Answered.{entry}

abbrev no_entry : Entry
no_entry = entry (pos 0) (pos 0) 0

abbrev plan : ℕ → ℕ → ℕ → Entry → Entry → Entry → Replacement
plan from to n x y z = record { from = from; to = to; n = n; x = x; y = y; z = z }

module _ {kind : Kind} {key : ℤ} where
  -- the least end of a range that touches
  least_less : {a b : ℤ} → LeastEnd kind key a → LeastEnd kind key b → rank a < rank b → ⊥
  least_less {a} x y h = omega (arith, x.reaches a (omega arith), y.short a h)

  pub least_end_one : {a b : ℤ} → LeastEnd kind key a → LeastEnd kind key b → a ≡ b
  least_end_one x y = rank_inj x.fits y.fits (neither_less _ _ (least_less x y) (least_less y x))

  -- the greatest start
  greatest_less : {a b : ℤ} → GreatestStart kind key a → GreatestStart kind key b → rank a < rank b → ⊥
  greatest_less {b = b} x y h = omega (arith, x.off b h, y.begins b (omega arith))

  pub greatest_start_one : {a b : ℤ} → GreatestStart kind key a → GreatestStart kind key b → a ≡ b
  greatest_start_one x y = rank_inj x.fits y.fits (neither_less _ _ (greatest_less x y) (greatest_less y x))

-- what becomes of an old range on a side
pub beside_one : {Beyond : Type 0} {p : ℕ} {new : Option ℕ} {own far : ℤ} {k l : Bool} {x y : ℤ}
    → Beside Beyond p new own far k x → Beside Beyond p new own far l y → (k ≡ l) × (x ≡ y)
beside_one (b_clear n) (b_clear m) = (refl, refl)
beside_one (b_clear n) (b_joined b s) = absurd (n b)
beside_one (b_clear n) (b_kept b d) = absurd (n b)
beside_one (b_joined b s) (b_clear n) = absurd (n b)
beside_one (b_joined b s) (b_joined c t) = (refl, refl)
beside_one (b_joined b s) (b_kept c d) = absurd (d s)
beside_one (b_kept b d) (b_clear n) = absurd (n b)
beside_one (b_kept b d) (b_joined c s) = absurd (d s)
beside_one (b_kept b d) (b_kept c e) = (refl, refl)

-- A PLAN: how many entries come, and the entry at each place, which comes or is 0
module _ {p q : Replacement} {i j : ℕ} {xs : List Entry} (a : Brings p i j 3 xs) (b : Brings q i j 3 xs) where
  many : {r : Replacement} → Brings r i j 3 xs → r.n ≡ length xs
  many {r} c = sym (length-take-le r.n (r.x ∷ r.y ∷ r.z ∷ []) c.few) ∙ ap length c.are

  same_entry : (k : ℕ) → get_or (p.x ∷ p.y ∷ p.z ∷ []) k no_entry ≡ get_or (q.x ∷ q.y ∷ q.z ∷ []) k no_entry
  same_entry k = elim (dec_lt k (length xs)) [
    | yes h ↦ sym (get_or-take p.n (p.x ∷ p.y ∷ p.z ∷ []) k no_entry (omega (arith, many a)))
        ∙ ap (λ (l : List Entry). get_or l k no_entry) (one_answer a.are b.are)
        ∙ get_or-take q.n (q.x ∷ q.y ∷ q.z ∷ []) k no_entry (omega (arith, many b))
    | no h ↦ one_answer (a.blank k (omega (arith, many a))) (b.blank k (omega (arith, many b)))
  ]

  pub brings_one : p ≡ q
  brings_one =
      ap (λ (k : ℕ). plan k p.to p.n p.x p.y p.z) (one_answer a.from_is b.from_is)
      ∙ ap (λ (k : ℕ). plan q.from k p.n p.x p.y p.z) (one_answer a.to_is b.to_is)
      ∙ ap (λ (k : ℕ). plan q.from q.to k p.x p.y p.z) (one_answer (many a) (many b))
      ∙ ap (λ (e : Entry). plan q.from q.to q.n e p.y p.z) (same_entry 0)
      ∙ ap (λ (e : Entry). plan q.from q.to q.n q.x e p.z) (same_entry 1)
      ∙ ap (plan q.from q.to q.n q.x q.y) (same_entry 2)
