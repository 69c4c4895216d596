use mathlib.Core.Path.{sym, ◌∙◌}
use Rattle.decimal.specs.Reading.{as_natural, as_negative}
use Rattle.decimal.proofs.Steps.{tried, signed_behind, signed_whole}
use Rattle.decimal.proofs.read_i64.Goals as goal

pub returns-in_err-read_u64-in-Some : goal.returns-in_err-read_u64-in-Some
unfolding as_negative
returns-in_err-read_u64-in-Some c =
    let behind = c.in-Some.ensures.cases in
    rw (signed_behind c.args.text.now behind.0 behind.1, sym c.read_u64.ensures ∙ c.in_err-read_u64-in-Some.was) c.from_residual.ensures

pub returns-in_ok-read_u64-in-Some : goal.returns-in_ok-read_u64-in-Some
returns-in_ok-read_u64-in-Some c =
    let behind = c.in-Some.ensures.cases in
    rw (signed_behind c.args.text.now behind.0 behind.1, sym c.read_u64.ensures ∙ c.in_ok-read_u64-in-Some.was) c.negative.ensures

pub returns-in_err-read_u64-in-None : goal.returns-in_err-read_u64-in-None
unfolding as_natural
returns-in_err-read_u64-in-None c =
    rw (signed_whole c.args.text.now c.in-None.ensures.cases, sym c.read_u64-in-None.ensures ∙ c.in_err-read_u64-in-None.was)
    c.from_residual-in_err-read_u64-in-None.ensures

pub returns-in_ok-read_u64-in-None : goal.returns-in_ok-read_u64-in-None
returns-in_ok-read_u64-in-None c =
    let e = c.in_ok-read_u64-in-None in
    rw (signed_whole c.args.text.now c.in-None.ensures.cases, sym c.read_u64-in-None.ensures ∙ e.was) (c.ok.ensures.value ∙ tried e.field-0 _ c.try_from.ensures)
