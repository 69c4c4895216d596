use mathlib.Core.Path.{sym, ◌∙◌}
use Rattle.key.specs.Range.{half_open}
use Rattle.outcomes.specs.Stored.{places}
use Rattle.outcomes.proofs.Formed.{formed}
use Rattle.byte_form.specs.Form.{write}
use Rattle.byte_io.proofs.write.write.Goals as goal

pub returns-then-not-well_formed : goal.returns-then-not-well_formed
unfolding write
returns-then-not-well_formed c = rw (sym c.well_formed-2.ensures.value ∙ c.if-not-well_formed.true)

pub write_formed-requires : goal.write_formed-requires
write_formed-requires c =
    let f = c.well_formed-2 in
    let yes = c.if-not-well_formed.false in
    (f.ensures.sound yes, (formed half_open places _ (sym f.ensures.value ∙ yes)).held)

pub returns : goal.returns
unfolding write
returns c =
    rw (sym c.well_formed-2.ensures.value ∙ c.if-not-well_formed.false) c.write_formed.ensures
