use Rattle.std.proofs.lemmas.Result.{err_from_is_err_and}
use Rattle.std.specs.Prelude.{Ok}
use lib.IntN.{ℤ}
use Prim.Native.Nat.{ℕ, ◌≤◌}
use native.Mathlib.Omega.{arith}
use mathlib.Core.Path.{sym, ap, ap₂, subst, ◌∙◌}
use mir.Syntax.{w64}
use mir.Facts.{to_z-of_z}
use Rattle.calendar.specs.declared.Date.{Date}
use Rattle.calendar.specs.Calendar.{date}
use Rattle.calendar.specs.Years.{Known}
use Rattle.log_day.specs.Days.{bounds, midnight}
use Rattle.log_day.specs.InnerZones.{zone_number}
use Rattle.log_day.proofs.Accepted.{Good, good_zone, next_known, next_follows, accepts, refuses}
use borrow.Author.Rules.{sfits_of}
use Rattle.log_day.proofs.day_of.Goals as goal

pub midnight_of-start-requires : goal.midnight_of-start-requires
midnight_of-start-requires c =
    let g = good_zone c.in_ok-there.there c.in_ok-there.ensures.0 c.in_ok-there.ensures.1 in
    (record { from = omega (arith, g.from); to = omega (arith, g.to) }, g.is_there.day_from)

pub next-requires : goal.next-requires
next-requires c =
    let g = good_zone c.in_ok-there.there c.in_ok-there.ensures.0 c.in_ok-there.ensures.1 in
    (g.is_date_lem, omega (arith, g.to))

pub midnight_of-end-requires : goal.midnight_of-end-requires
midnight_of-end-requires c =
    let z = zone_number c.in_ok-there.there in
    let d : Date = date c.args.year c.args.month c.args.day in
    let g : Good z d = good_zone c.in_ok-there.there c.in_ok-there.ensures.0 c.in_ok-there.ensures.1 in
    let e = sym c.next.ensures in
    (subst (λ (x : Date). Known x.year) e (next_known z d g), subst (λ (x : Date). 1 ≤ x.day) e (next_follows z d g).is_there.day_from)

pub returns-in_err-there : goal.returns-in_err-there
returns-in_err-there c =
    let a = c.args in
    let p = err_from_is_err_and c.from_residual.result c.from_residual.ensures.1 in
    let e = c.in_err-there.ensures in
    rw (p.1, p.2, e.0) (refuses a.zone a.year a.month a.day e.1)

pub returns : goal.returns
returns c =
    let a = c.args in
    let z = c.in_ok-there.there in
    let e = to_z-of_z {w = w64} (sfits_of c.midnight_of-start.type_inv) ∙ c.midnight_of-start.ensures ∙ ap (λ (n : ℕ). midnight n (date a.year a.month a.day)) c.in_ok-there.ensures.0 in
    let f = to_z-of_z {w = w64} (sfits_of c.midnight_of-end.type_inv) ∙ c.midnight_of-end.ensures ∙ ap₂ midnight c.in_ok-there.ensures.0 c.next.ensures in
    ap₂ (λ (s t : ℤ). Ok (bounds s t)) e f ∙ accepts a.zone a.year a.month a.day c.in_ok-there.ensures.1
