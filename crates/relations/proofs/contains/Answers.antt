use native.Mathlib.Omega.{arith}
use mir.Facts.{to_z-of_z}
use mir.Syntax.{w64}
use mir.Val.{SFits}
use borrow.Author.Rules.{rules}
use Rattle.key.proofs.Laws.{tests}
use Rattle.key.proofs.Answers.{not_full, fails}
use Rattle.relations.proofs.Returns.{contains_empty, contains_told}
use Rattle.relations.proofs.contains.Goals as goal

pub returns-then-not-starts_before : goal.returns-then-not-starts_before
returns-then-not-starts_before c = contains_empty _ _ _ _ (not_full c.starts_before.ensures c.if-not-starts_before.true)

pub returns-then-range-key : goal.returns-then-range-key
returns-then-range-key c =
    let real = c.starts_before.ensures.right c.if-not-starts_before.false in
    let end_fits : SFits w64 c.args.range.end = search rules in
    let ending = rw (to_z-of_z c.ranges.key, to_z-of_z end_fits) at c.full.ensures in
    contains_told _ _ _ _ real _ (record {
      right = λ e. let h = ending.right e in omega (arith, tests, c.if-range-key.true);
      wrong = λ e i. ending.wrong e (omega (arith, i.to));
    })

pub returns-else-range-key : goal.returns-else-range-key
returns-else-range-key c =
    let real = c.starts_before.ensures.right c.if-not-starts_before.false in
    rw c.if-range-key.false (contains_told _ _ _ _ real _ (fails (λ i. omega (arith, tests, c.if-range-key.false, i.from))))
