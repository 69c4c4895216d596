use native.Mathlib.Omega.{arith}
use Rattle.log_day.specs.InnerZones.{zone_number}
use Rattle.log_day.proofs.Accepted.{number_below}
use Rattle.log_day.proofs.Keys.{back, midnight_back, midnight_fits}
use Rattle.log_day.proofs.midnight_of.Goals as goal

pub overflow_sub-result : goal.overflow_sub-result
overflow_sub-result c =
    let n = c.day_number in
    let zone = zone_number c.args.zone in
    let there = number_below c.args.zone in
    let key_of = midnight_back zone c.args.date there n.ensures.0 n.ensures.1 c.utc_midnight.ensures c.offset_of.ensures in
    rw key_of (midnight_fits zone c.args.date there (omega (arith, n.ensures.0, n.ensures.1)))

pub returns : goal.returns
returns c =
    let n = c.day_number in
    let zone = zone_number c.args.zone in
    let there = number_below c.args.zone in
    let key_of = midnight_back zone c.args.date there n.ensures.0 n.ensures.1 c.utc_midnight.ensures c.offset_of.ensures in
    back key_of (midnight_fits zone c.args.date there (omega (arith, n.ensures.0, n.ensures.1)))
