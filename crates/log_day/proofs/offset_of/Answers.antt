use mathlib.Core.Path.{◌≡◌, ap, sym, ◌∙◌}
use lib.IntN.{ℤ, pos, ◌+ℤ◌}
use mir.Syntax.{w64}
use mir.Val.{to_z, of_z}
use Rattle.log_day.specs.Days.{standard}
use Rattle.log_day.specs.InnerZones.{zone_number}
use Rattle.log_day.proofs.Accepted.{number_below}
use Rattle.log_day.proofs.Keys.{back, standard_fits, later_fits, offset_later, offset_standard}
use Rattle.log_day.proofs.offset_of.Goals as goal

pub overflow_add-result : goal.overflow_add-result
overflow_add-result c =
    let zone = zone_number c.args.zone in
    let later_of : to_z w64 (of_z w64 c.standard-standard.result) +ℤ pos 3600 ≡ standard zone +ℤ pos 3600 =
    ap (λ (x : ℤ). x +ℤ pos 3600) (back c.standard-standard.ensures (standard_fits zone (number_below c.args.zone))) in
    rw later_of (later_fits zone (number_below c.args.zone))

pub returns-then-has_daylight : goal.returns-then-has_daylight
returns-then-has_daylight c =
    let zone = zone_number c.args.zone in
    let later_of : to_z w64 (of_z w64 c.standard-standard.result) +ℤ pos 3600 ≡ standard zone +ℤ pos 3600 =
    ap (λ (x : ℤ). x +ℤ pos 3600) (back c.standard-standard.ensures (standard_fits zone (number_below c.args.zone))) in
    back later_of (later_fits zone (number_below c.args.zone)) ∙ offset_later zone c.args.date (sym c.has_daylight.ensures ∙ c.if-has_daylight.true)

pub returns-else-has_daylight : goal.returns-else-has_daylight
returns-else-has_daylight c =
    let zone = zone_number c.args.zone in
    back c.standard-standard.ensures (standard_fits zone (number_below c.args.zone))
    ∙ offset_standard zone c.args.date (sym c.has_daylight.ensures ∙ c.if-has_daylight.false)
