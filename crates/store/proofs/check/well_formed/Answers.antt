use Prim.Native.Nat.{ℕ, ◌<◌}
use mathlib.Core.Path.{subst}
use Rattle.key.specs.InnerDecides.{Decides}
use Rattle.outcomes.specs.Stored.{places}
use Rattle.outcomes.specs.declared.Stored.{Stored}
use Rattle.store.specs.InnerCheck.{Steps, Keys}
use Rattle.key.specs.Range.{kind_of}
use Rattle.outcomes.proofs.Formed.{Shaped}
use Rattle.store.proofs.Checked.{refuses, answers, all_fit, whole}
use Rattle.store.proofs.check.well_formed.Goals as goal

pub returns-then-unused-clause-value : goal.returns-then-unused-clause-value
returns-then-unused-clause-value c =
    let m = c.args.m.now in
    let n = c.unused.ensures.all_places in
    let shape : Shaped places m = record { starts = n.0; ends = n.1; values = n.2 } in
    let kind = kind_of c.args.kind in
    let u = c.unused.ensures.decides.right c.if-unused.true in
    answers kind shape _ u (subst (λ (z : Stored). Decides c.tidy.result (Steps kind z)) c.lent.ensures c.tidy.ensures.decides)

pub returns-then-unused-clause-sound : goal.returns-then-unused-clause-sound
returns-then-unused-clause-sound c =
    let m = c.args.m.now in
    let n = c.unused.ensures.all_places in
    let shape : Shaped places m = record { starts = n.0; ends = n.1; values = n.2 } in
    let kind = kind_of c.args.kind in
    let u = c.unused.ensures.decides.right c.if-unused.true in
    let decides = subst (λ (z : Stored). Decides c.tidy.result (Steps kind z)) c.lent.ensures c.tidy.ensures.decides in
    whole kind shape (answers kind shape _ u decides) (λ e. all_fit kind shape u (subst (λ (z : Stored). (k : ℕ) → k < z.count → Keys z k) c.lent.ensures (c.tidy.ensures.keys e)))

pub returns-then-unused-clause-starts_len : goal.returns-then-unused-clause-starts_len
returns-then-unused-clause-starts_len c = λ _. c.unused.ensures.all_places.0

pub returns-else-unused-clause-value : goal.returns-else-unused-clause-value
returns-else-unused-clause-value c =
    let m = c.args.m.now in
    let n = c.unused.ensures.all_places in
    let shape : Shaped places m = record { starts = n.0; ends = n.1; values = n.2 } in
    let kind = kind_of c.args.kind in
    rw c.if-unused.false (refuses kind shape (c.unused.ensures.decides.wrong c.if-unused.false))
