use mathlib.Core.Path.{refl, sym, ◌∙◌}
use mir.Facts.{to_z-of_z}
use Rattle.query.specs.Answers.{query_ranges}
use Rattle.query.proofs.ranges.query.Goals as goal

pub returns-then-not-are_formed : goal.returns-then-not-are_formed
unfolding query_ranges
returns-then-not-are_formed c = rw (sym c.are_formed.ensures.value ∙ c.if-not-are_formed.true) refl

pub query_unchecked-requires : goal.query_unchecked-requires
query_unchecked-requires c = rw (c.lent.ensures, c.lent-2.ensures) (c.are_formed.ensures.sound c.if-not-are_formed.false)

pub returns : goal.returns
unfolding query_ranges
returns c =
    let told = rw (c.lent.ensures, c.lent-2.ensures, to_z-of_z c.ranges.start, to_z-of_z c.ranges.end) at c.query_unchecked.ensures in
    rw (sym c.are_formed.ensures.value ∙ c.if-not-are_formed.false) told
