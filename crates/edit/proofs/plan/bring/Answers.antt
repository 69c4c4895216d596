use native.Mathlib.Omega.{arith}
use mathlib.Core.Path.{ap, ◌∙◌}
use Rattle.edit.specs.InnerPlan.{in_front}
use Rattle.edit.proofs.Cuts.{all_blank}
use Rattle.edit.proofs.plan.bring.Goals as goal

pub in_front-one-requires : goal.in_front-one-requires
in_front-one-requires c = (omega arith, all_blank _)

pub in_front-two-requires : goal.in_front-two-requires
in_front-two-requires c = (omega (arith, c.in_front-one.ensures.few), c.in_front-one.ensures.blank)

pub in_front-requires : goal.in_front-requires
in_front-requires c = (omega (arith, c.in_front-two.ensures.few, c.in_front-one.ensures.few), c.in_front-two.ensures.blank)

pub returns : goal.returns
returns c =
    let g = c.args in
    let x = c.in_front-one.ensures in
    let y = c.in_front-two.ensures in
    let z = c.in_front.ensures in
    record {
      from_is = z.from_is ∙ y.from_is ∙ x.from_is;
      to_is = z.to_is ∙ y.to_is ∙ x.to_is;
      few = omega (arith, x.few, y.few, z.few);
      are = z.are ∙ ap (in_front g.left) (y.are ∙ ap (in_front g.new) x.are);
      blank = z.blank;
    }
