use Prim.Native.Nat.{ℕ, ◌<◌}
use mathlib.Core.Path.{refl, sym, subst, ◌∙◌}
use Rattle.std.proofs.lemmas.Result.{err_from_is_err_and}
use Rattle.log_day.specs.Days.{zones}
use Rattle.log_day.proofs.Accepted.{number_below, no_zone, by_date}
use Rattle.log_day.proofs.accepted_zone.Goals as goal

pub returns-in_err-zone : goal.returns-in_err-zone
returns-in_err-zone c =
    let p = err_from_is_err_and c.from_residual.result c.from_residual.ensures.1 in
    rw (p.1, p.2) (c.in_err-zone.ensures.0, no_zone c.args.number c.args.date c.in_err-zone.ensures.1)

pub returns-then-is_in_ledger : goal.returns-then-is_in_ledger
returns-then-is_in_ledger c =
    let d = c.args.date in
    let e = c.in_ok-zone.ensures in
    let p = by_date c.args.number d (subst (λ (n : ℕ). n < zones) e (number_below c.in_ok-zone.zone)) in
    (e, sym p ∙ sym c.is_in_ledger.ensures ∙ c.if-is_in_ledger.true)

pub returns-else-is_in_ledger : goal.returns-else-is_in_ledger
returns-else-is_in_ledger c =
    let d = c.args.date in
    let e = c.in_ok-zone.ensures in
    let p = by_date c.args.number d (subst (λ (n : ℕ). n < zones) e (number_below c.in_ok-zone.zone)) in
    (refl, sym p ∙ sym c.is_in_ledger.ensures ∙ c.if-is_in_ledger.false)
