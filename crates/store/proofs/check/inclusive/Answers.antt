use Prim.Native.Nat.{◌+◌, ◌-◌, ◌^◌, ◌<◌}
use native.Mathlib.Omega.{arith}
use mathlib.Core.Path.{ap, sym, ◌∙◌}
use borrow.Author.Rules.{sfits_of}
use borrow.Author.Tests.{ne_eqb}
use lib.ListN.{get_or}
use lib.IntN.{pos, ◌+ℤ◌}
use mir.Syntax.{w64}
use mir.Val.{to_z, of_z}
use Rattle.key.specs.Rank.{rank, bit_rank}
use Rattle.key.proofs.Laws.{tests, rank_ne, rank_below, next_fits, rank_next}
use Rattle.key.proofs.Answers.{holds, fails, never}
use Rattle.store.proofs.Checked.{differ}
use Rattle.store.proofs.check.inclusive.Goals as goal
use Rattle.store.proofs.check.inclusive.Goals.{then-m-k, else-m-k}

pub returns-then-end-next-2-clause-follows : goal.returns-then-end-next-2-clause-follows
returns-then-end-next-2-clause-follows c =
    let a = c.args in
    let end = of_z w64 (get_or a.m.now.ends.now a.k (pos 0)) in
    elim c.if-m-k.branch [
      | then-m-k w ↦
          let later = sym w.value-is ∙ c.if-end-next.true in
          let room : rank (get_or a.m.now.ends.now a.k (pos 0)) < 2 ^ 64 - 1 = omega (arith, tests, rank_below (of_z w64 (get_or a.m.now.starts.now (a.k + 1) (pos 0)))) in
          rw (ne_eqb _ _ c.if-end-next-2.true) (holds (record {
            full = omega (arith, tests);
            past = omega (arith, tests);
            unlike = λ t v. rank_ne {a = to_z w64 end +ℤ pos 1} {b = get_or a.m.now.starts.now (a.k + 1) (pos 0)} (next_fits end room) (sfits_of c.next-1.given) c.if-end-next-2.true (omega (arith, rank_next end room));
          }))
      | else-m-k w ↦ never (sym w.if-m-k.false ∙ sym w.value-is ∙ c.if-end-next.true)
    ]

pub returns-else-end-next-2-clause-follows : goal.returns-else-end-next-2-clause-follows
returns-else-end-next-2-clause-follows c =
    let a = c.args in
    let end = of_z w64 (get_or a.m.now.ends.now a.k (pos 0)) in
    elim c.if-m-k.branch [
      | then-m-k w ↦
          let later = sym w.value-is ∙ c.if-end-next.true in
          let room : rank (get_or a.m.now.ends.now a.k (pos 0)) < 2 ^ 64 - 1 = omega (arith, tests, rank_below (of_z w64 (get_or a.m.now.starts.now (a.k + 1) (pos 0)))) in
          let d = differ (get_or a.m.now.values.now a.k 0) (get_or a.m.now.values.now (a.k + 1) 0) in
          record {
            right = λ t. record { full = omega (arith, tests); past = omega (arith, tests); unlike = λ _. d.right t };
            wrong = λ t f. d.wrong t (f.unlike (omega (arith, ap bit_rank c.if-end-next-2.false, rank_next end room)));
          }
      | else-m-k w ↦ never (sym w.if-m-k.false ∙ sym w.value-is ∙ c.if-end-next.true)
    ]

pub returns-else-end-next-clause-follows : goal.returns-else-end-next-clause-follows
returns-else-end-next-clause-follows c = rw c.if-end-next.false (elim c.if-m-k.branch [
  | then-m-k w ↦ let sooner = sym w.value-is ∙ c.if-end-next.false in fails (λ f. omega (arith, tests, f.past))
  | else-m-k w ↦ fails (λ f. omega (arith, tests, f.full))
])
