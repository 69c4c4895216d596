use Prim.Native.Nat.{◌+◌}
use native.Mathlib.Omega.{arith}
use lib.ListN.{get_or}
use lib.IntN.{pos}
use Rattle.key.specs.Rank.{rank}
use Rattle.key.proofs.Laws.{tests, rank_back}
use Rattle.key.proofs.Answers.{fails}
use Rattle.store.proofs.Checked.{past_bar, at_bar}
use Rattle.store.proofs.check.half_open.Goals as goal

pub bar-requires : goal.bar-requires
bar-requires c = simp rank_back (omega (arith, tests))

pub returns-then-m-k-clause-follows : goal.returns-then-m-k-clause-follows
returns-then-m-k-clause-follows c =
    let a = c.args in
    let b = simp rank_back at c.bar.ensures in
    record {
      right = λ t.
          let p = past_bar b.0 b.1 {n = rank (get_or a.m.now.starts.now (a.k + 1) (pos 0))} (omega (arith, tests)) in
          record { full = omega (arith, tests); past = p.0; unlike = p.1 };
      wrong = λ t w. at_bar b.0 b.1 (omega (arith, tests)) w.past w.unlike;
    }

pub returns-else-m-k-clause-follows : goal.returns-else-m-k-clause-follows
returns-else-m-k-clause-follows c = rw c.if-m-k.false (fails (λ w. omega (arith, tests, w.full)))
