use mathlib.Core.Path.{refl, sym, ◌∙◌}
use mir.Facts.{to_z-of_z}
use Rattle.query.specs.Answers.{query_at}
use Rattle.query.proofs.instant.query_at.Goals as goal

pub returns-then-not-are_formed : goal.returns-then-not-are_formed
unfolding query_at
returns-then-not-are_formed c = rw (sym c.are_formed.ensures.value ∙ c.if-not-are_formed.true) refl

pub query_at_unchecked-requires : goal.query_at_unchecked-requires
query_at_unchecked-requires c = rw (c.lent.ensures, c.lent-2.ensures) (c.are_formed.ensures.sound c.if-not-are_formed.false)

pub returns : goal.returns
unfolding query_at
returns c =
    let told = rw (c.lent.ensures, c.lent-2.ensures, to_z-of_z c.ranges.start, to_z-of_z c.ranges.end, to_z-of_z c.ranges.key) at c.query_at_unchecked.ensures in
    rw (sym c.are_formed.ensures.value ∙ c.if-not-are_formed.false) told
