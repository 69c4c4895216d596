use native.Mathlib.Omega.{arith}
use mathlib.Core.Path.{sym, ap, ◌∙◌}
use Rattle.query_text.proofs.Bytes.{seen}
use Rattle.query_text.specs.Grammar.{factor as Level·factor, sum as Level·sum}
use Rattle.query_text.specs.InnerReading.{here}
use Rattle.query_text.specs.declared.cursor.Cursor.{Cursor}
use Rattle.query_text.proofs.Parts.{later, none_below, alone, none_behind, together, terms, sums, past_of, bad_negation}
use Rattle.query_text.proofs.Parts.{bad_grouping, negation_found, not_closed, grouping_found, factor_negated, factor_grouped, factor_atom, reads_got}
use Rattle.query_text.proofs.Parts.{reads_bad, reads_is}
use Rattle.query_text.proofs.reader.+factor_grouped_negated_sum_term.Goals as goal

pub factor-returns-then-sees : goal.factor-returns-then-sees
factor-returns-then-sees t c =
    reads_is c.args.bytes.now c.args.c.marks _ _ c.negated.result (factor_negated c.args.bytes.now c.args.c (sym c.sees.ensures ∙ c.if-sees.true)) c.negated.ensures

pub factor-returns-then-sees-2 : goal.factor-returns-then-sees-2
factor-returns-then-sees-2 t c =
    reads_is c.args.bytes.now c.args.c.marks _ _ c.grouped.result
    (factor_grouped c.args.bytes.now c.args.c (sym c.sees.ensures ∙ c.if-sees.false) (sym c.sees-2.ensures ∙ c.if-sees-2.true)) c.grouped.ensures

pub factor-returns : goal.factor-returns
factor-returns t c =
    reads_is c.args.bytes.now c.args.c.marks _ _ c.atom.result
    (factor_atom c.args.bytes.now c.args.c (sym c.sees.ensures ∙ c.if-sees.false) (sym c.sees-2.ensures ∙ c.if-sees-2.false)) c.atom.ensures

pub grouped-returns-in_err-d : goal.grouped-returns-in_err-d
grouped-returns-in_err-d t c =
    let bytes = c.args.bytes.now in
    let p = past_of bytes c.args.c _ c.requires.0 (sym c.is_full.ensures ∙ c.if-is_full.false) c.opened.ensures in
    rw c.from_residual.ensures (bad_grouping bytes c.args.c c.opened.result p (reads_bad bytes c.opened.result.marks _ c.in_err-d.was c.sum.ensures))

pub grouped-returns-then-not-sees : goal.grouped-returns-then-not-sees
grouped-returns-then-not-sees t c =
    let bytes = c.args.bytes.now in
    let p = past_of bytes c.args.c _ c.requires.0 (sym c.is_full.ensures ∙ c.if-is_full.false) c.opened.ensures in
    let f = reads_got bytes c.opened.result.marks (here Level·sum bytes c.opened.result) c.in_ok-d.was c.sum.ensures in
    not_closed bytes c.args.c _ _ _ p f (sym c.sees.ensures ∙ c.if-not-sees.true)

pub grouped-returns : goal.grouped-returns
grouped-returns t c =
    let bytes = c.args.bytes.now in
    let p = past_of bytes c.args.c _ c.requires.0 (sym c.is_full.ensures ∙ c.if-is_full.false) c.opened.ensures in
    let f = reads_got bytes c.opened.result.marks (here Level·sum bytes c.opened.result) c.in_ok-d.was c.sum.ensures in
    grouping_found bytes c.args.c _ _ _ _ _ p f (sym c.sees.ensures ∙ c.if-not-sees.false) c.next.ensures c.shut.ensures

pub negated-returns-in_err-d : goal.negated-returns-in_err-d
negated-returns-in_err-d t c =
    let bytes = c.args.bytes.now in
    let p = past_of bytes c.args.c _ c.requires.0 (sym c.is_full.ensures ∙ c.if-is_full.false) c.opened.ensures in
    rw c.from_residual.ensures (bad_negation bytes c.args.c c.opened.result p (reads_bad bytes c.opened.result.marks _ c.in_err-d.was c.factor.ensures))

pub negated-returns : goal.negated-returns
negated-returns t c =
    let bytes = c.args.bytes.now in
    let p = past_of bytes c.args.c _ c.requires.0 (sym c.is_full.ensures ∙ c.if-is_full.false) c.opened.ensures in
    let f = reads_got bytes c.opened.result.marks (here Level·factor bytes c.opened.result) c.in_ok-d.was c.factor.ensures in
    negation_found bytes c.args.c c.opened.result _ _ _ c.not.result p f c.shut.ensures c.not.ensures

pub sum-returns-in_err-d : goal.sum-returns-in_err-d
sum-returns-in_err-d t c =
    rw c.from_residual.ensures (none_below sums c.args.bytes.now c.args.c (reads_bad c.args.bytes.now c.args.c.marks _ c.in_err-d.was c.term.ensures))

pub sum-returns-then-not-sees : goal.sum-returns-then-not-sees
sum-returns-then-not-sees t c =
    let bytes = c.args.bytes.now in
    let f = reads_got bytes c.args.c.marks (here sums.low bytes c.args.c) c.in_ok-d.was c.term.ensures in
    alone sums bytes c.args.c c.in_ok-d.d _ f (sym c.sees.ensures ∙ c.if-not-sees.true)

pub sum-sum-requires : goal.sum-sum-requires
sum-sum-requires t c =
    let bytes = c.args.bytes.now in
    let d = c.in_ok-d.d in
    let f = reads_got bytes c.args.c.marks (here sums.low bytes c.args.c) c.in_ok-d.was c.term.ensures in
    let h = seen bytes d.at 124 (sym c.sees.ensures ∙ c.if-not-sees.false) in
    let e = ap (λ (y : Cursor). y.at) c.next.ensures in
    let m = ap (λ (y : Cursor). y.marks) c.next.ensures in
    (omega (arith, c.decreases, later sums.low bytes c.args.c d c.args.c.marks _ f), record { inside = omega arith; few = omega (arith, f.back, c.requires.few) })

pub sum-returns-in_err-e : goal.sum-returns-in_err-e
sum-returns-in_err-e t c =
    let bytes = c.args.bytes.now in
    let f = reads_got bytes c.args.c.marks (here sums.low bytes c.args.c) c.in_ok-d.was c.term.ensures in
    rw c.from_residual-in_err-e.ensures (none_behind sums bytes c.args.c c.in_ok-d.d c.next.result _ f (sym c.sees.ensures ∙ c.if-not-sees.false)
    c.next.ensures (reads_bad bytes c.next.result.marks _ c.in_err-e.was c.sum.ensures))

pub sum-returns : goal.sum-returns
sum-returns t c =
    let bytes = c.args.bytes.now in
    let f = reads_got bytes c.args.c.marks (here sums.low bytes c.args.c) c.in_ok-d.was c.term.ensures in
    together sums bytes c.args.c c.in_ok-d.d c.next.result c.in_ok-e.e _ _ c.or.result f
    (sym c.sees.ensures ∙ c.if-not-sees.false) c.next.ensures
    (reads_got bytes c.next.result.marks _ c.in_ok-e.was c.sum.ensures) c.or.ensures

pub term-returns-in_err-d : goal.term-returns-in_err-d
term-returns-in_err-d t c =
    rw c.from_residual.ensures (none_below terms c.args.bytes.now c.args.c (reads_bad c.args.bytes.now c.args.c.marks _ c.in_err-d.was c.factor.ensures))

pub term-returns-then-not-sees : goal.term-returns-then-not-sees
term-returns-then-not-sees t c =
    let bytes = c.args.bytes.now in
    let f = reads_got bytes c.args.c.marks (here terms.low bytes c.args.c) c.in_ok-d.was c.factor.ensures in
    alone terms bytes c.args.c c.in_ok-d.d _ f (sym c.sees.ensures ∙ c.if-not-sees.true)

pub term-term-requires : goal.term-term-requires
term-term-requires t c =
    let bytes = c.args.bytes.now in
    let d = c.in_ok-d.d in
    let f = reads_got bytes c.args.c.marks (here terms.low bytes c.args.c) c.in_ok-d.was c.factor.ensures in
    let h = seen bytes d.at 38 (sym c.sees.ensures ∙ c.if-not-sees.false) in
    let e = ap (λ (y : Cursor). y.at) c.next.ensures in
    let m = ap (λ (y : Cursor). y.marks) c.next.ensures in
    (omega (arith, c.decreases, later terms.low bytes c.args.c d c.args.c.marks _ f), record { inside = omega arith; few = omega (arith, f.back, c.requires.few) })

pub term-returns-in_err-e : goal.term-returns-in_err-e
term-returns-in_err-e t c =
    let bytes = c.args.bytes.now in
    let f = reads_got bytes c.args.c.marks (here terms.low bytes c.args.c) c.in_ok-d.was c.factor.ensures in
    rw c.from_residual-in_err-e.ensures (none_behind terms bytes c.args.c c.in_ok-d.d c.next.result _ f (sym c.sees.ensures ∙ c.if-not-sees.false)
    c.next.ensures (reads_bad bytes c.next.result.marks _ c.in_err-e.was c.term.ensures))

pub term-returns : goal.term-returns
term-returns t c =
    let bytes = c.args.bytes.now in
    let f = reads_got bytes c.args.c.marks (here terms.low bytes c.args.c) c.in_ok-d.was c.factor.ensures in
    together terms bytes c.args.c c.in_ok-d.d c.next.result c.in_ok-e.e _ _ c.and.result f
    (sym c.sees.ensures ∙ c.if-not-sees.false) c.next.ensures
    (reads_got bytes c.next.result.marks _ c.in_ok-e.was c.term.ensures) c.and.ensures
