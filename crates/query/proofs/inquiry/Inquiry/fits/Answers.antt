use native.Mathlib.Omega.{arith}
use mathlib.Core.Path.{ap, sym, ◌∙◌}
use mathlib.Core.List.{List}
use borrow.Author.Tests.{leb-true, leb-false, ltb-true}
use lib.ListN.{length}
use Rattle.span.specs.Span.{Span}
use Rattle.span.proofs.Laws.{only}
use Rattle.key.proofs.Answers.{holds}
use Rattle.query.proofs.inquiry.Inquiry.fits.Goals as goal
use Rattle.query.proofs.inquiry.Inquiry.fits.Goals.{then-room-gt0, else-room-gt0}

pub returns-then-roomy : goal.returns-then-roomy
returns-then-roomy c =
    let known = c.requires.2 in
    λ zs g. rw c.if-roomy.true (elim c.if-room-gt0.branch [
      | then-room-gt0 w ↦ let l = ap (λ (l : List Span). length l) (only g known.to_come) in
          holds (omega (arith, known.few, w.roomy.ensures.right (sym w.value-is ∙ c.if-roomy.true)))
      | else-room-gt0 w ↦ absurd (omega (arith, ltb-true 0 c.args.room (sym w.value-is ∙ c.if-roomy.true)))
    ])

pub count-requires : goal.count-requires
count-requires c = (c.requires.0, c.requires.1)

pub returns-else-roomy : goal.returns-else-roomy
returns-else-roomy c =
    let n = c.count.ensures in
    λ zs g. record { right = λ e. omega (arith, leb-true, n.many zs g); wrong = λ e h. omega (arith, leb-false, n.many zs g) }
