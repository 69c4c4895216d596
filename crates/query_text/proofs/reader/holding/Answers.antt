use native.Mathlib.Omega.{arith}
use mathlib.Core.Path.{sym, ◌∙◌}
use Rattle.query_text.specs.InnerClasses.{atom_of}
use Rattle.query_text.proofs.Atoms.{no_digit, digit_at, digit_found}
use Rattle.query_text.proofs.reader.holding.Goals as goal

pub returns-then-not-sees_digit : goal.returns-then-not-sees_digit
returns-then-not-sees_digit c =
    no_digit (atom_of c.args.second) _ (sym c.sees_digit.ensures ∙ c.if-not-sees_digit.true)

pub digit-requires : goal.digit-requires
digit-requires c =
    let g = digit_at c.args.bytes.now c.args.c.at (sym c.sees_digit.ensures ∙ c.if-not-sees_digit.false) in
    (g.inside, g.low)

pub atom-requires : goal.atom-requires
atom-requires c =
    let g = digit_at c.args.bytes.now c.args.c.at (sym c.sees_digit.ensures ∙ c.if-not-sees_digit.false) in
    omega (arith, c.digit.ensures, g.high)

pub returns : goal.returns
returns c =
    let bytes = c.args.bytes.now in
    let g = digit_at bytes c.args.c.at (sym c.sees_digit.ensures ∙ c.if-not-sees_digit.false) in
    digit_found (atom_of c.args.second) bytes c.args.c _ c.digit.result _ g c.next.ensures c.digit.ensures
    c.atom.ensures
