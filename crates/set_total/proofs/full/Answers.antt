use native.Mathlib.Omega.{arith}
use Prim.Native.Nat.{◌<◌}
use mathlib.Core.Path.{◌≡◌, refl, sym, ◌∙◌}
use borrow.Author.Tests.{eqb-true, eqb-false, ltb-true, ltb-false}
use Rattle.key.proofs.Answers.{fails}
use Rattle.key.proofs.Laws.{rank_back}
use Rattle.two_sets.specs.InnerKind.{wide}
use Rattle.set_total.proofs.Laws.{wide_one, open_fits, empty_fits, length_at, too_many_keys, not_many}
use Rattle.set_total.proofs.full.Goals as goal
use Rattle.set_total.proofs.full.Goals.{then-width-eq1, else-width-eq1}

pub apart-requires : goal.apart-requires
apart-requires c =
    let some : 0 < c.args.m.now.count =
    elim c.if-width-eq1.branch [
      | then-width-eq1 w ↦ ltb-true 0 c.args.m.now.count (sym w.value-is ∙ c.if-m-gt0.true)
      | else-width-eq1 w ↦ absurd (w.if-width-eq1.false (eqb-true _ _ (sym w.value-is ∙ c.if-m-gt0.true)))
    ] in
    simp rank_back (length_at c.args.kind c.requires 0 some refl refl)

pub returns-then-m-gt0 : goal.returns-then-m-gt0
returns-then-m-gt0 c =
    let both : (wide c.args.kind ≡ 1) × (0 < c.args.m.now.count) =
    elim c.if-width-eq1.branch [
      | then-width-eq1 w ↦ (sym c.width.ensures ∙ w.if-width-eq1.true, ltb-true 0 c.args.m.now.count (sym w.value-is ∙ c.if-m-gt0.true))
      | else-width-eq1 w ↦ absurd (w.if-width-eq1.false (eqb-true _ _ (sym w.value-is ∙ c.if-m-gt0.true)))
    ] in
    let e = simp rank_back at c.apart.ensures in
    record {
      right = λ t. too_many_keys c.args.kind c.requires both.1 refl refl (omega (arith, both.0, eqb-true _ _ t));
      wrong = λ f. not_many c.args.kind c.requires both.1 refl refl (omega (arith, both.0, eqb-false _ _ f));
    }

pub returns-else-m-gt0 : goal.returns-else-m-gt0
returns-else-m-gt0 c =
    rw c.if-m-gt0.false
    (fails
    (elim c.if-width-eq1.branch [
      | then-width-eq1 w ↦ empty_fits c.args.kind c.requires (omega (arith, ltb-false 0 c.args.m.now.count (sym w.value-is ∙ c.if-m-gt0.false)))
      | else-width-eq1 w ↦
          λ h. omega (arith, h, open_fits c.args.kind (omega (arith, wide_one c.args.kind, c.width.ensures, w.if-width-eq1.false)) c.requires)
    ]))
