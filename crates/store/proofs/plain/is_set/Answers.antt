use mathlib.Core.Path.{sym, ◌∙◌}
use Rattle.key.specs.Range.{kind_of}
use Rattle.store.proofs.Sets.{no_set_lem, set_answers}
use Rattle.store.proofs.plain.is_set.Goals as goal

pub returns-then-plain-clause-value : goal.returns-then-plain-clause-value
returns-then-plain-clause-value c =
    let w = c.well_formed-then-plain.ensures in
    (set_answers (kind_of c.args.kind) c.args.m.now _ (sym c.plain.ensures ∙ c.if-plain.true) w.value w.sound).0

pub returns-then-plain-clause-sound_set : goal.returns-then-plain-clause-sound_set
returns-then-plain-clause-sound_set c =
    let w = c.well_formed-then-plain.ensures in
    (set_answers (kind_of c.args.kind) c.args.m.now _ (sym c.plain.ensures ∙ c.if-plain.true) w.value w.sound).1

pub returns-else-plain-clause-value : goal.returns-else-plain-clause-value
returns-else-plain-clause-value c = rw c.if-plain.false (no_set_lem (kind_of c.args.kind) c.args.m.now (sym c.plain.ensures ∙ c.if-plain.false))
