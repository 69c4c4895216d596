use native.Mathlib.Omega.{arith}
use mathlib.Core.Path.{sym, ap, ◌∙◌}
use Prim.Native.Nat.{ℕ, ◌+◌}
use lib.ListN.{drop}
use Rattle.std.specs.Prelude.{Option, Some}
use Rattle.decimal.specs.Reading.{read_on}
use Rattle.decimal.proofs.Reading.{on_not}
use Rattle.decimal.proofs.Steps.{number_plain, number_not, read_more, read_all}
use Rattle.decimal.proofs.read_u64.Goals as goal

pub returns-then-not-is_plain : goal.returns-then-not-is_plain
returns-then-not-is_plain c = sym (number_not c.args.text.now (sym c.is_plain.ensures ∙ c.if-not-is_plain.true))

pub loop-byte-init : goal.loop-byte-init
loop-byte-init c = number_plain c.args.text.now (sym c.is_plain.ensures ∙ c.if-not-is_plain.false)

pub returns-in_err-n : goal.returns-in_err-n
returns-in_err-n c =
    let l = c.loop-byte in
    let t = c.args.text.now in
    let e = sym c.next.ensures ∙ c.in_err-n.was in
    rw (l.invariant, read_more t (Some l.n) l.byte-index (omega arith), e, on_not (drop (l.byte-index + 1) t)) c.from_residual.ensures

pub loop-byte-preserved : goal.loop-byte-preserved
loop-byte-preserved c =
    let l = c.loop-byte in
    let t = c.args.text.now in
    let e = sym c.next.ensures ∙ c.in_ok-n.was in
    l.invariant ∙ read_more t (Some l.n) l.byte-index (omega arith) ∙ ap (λ (a : Option ℕ). read_on a (drop (l.byte-index + 1) t)) e

pub returns : goal.returns
returns c =
    let l = c.loop-byte in
    sym (l.invariant ∙ read_all c.args.text.now (Some l.n) l.byte-index (omega arith))
