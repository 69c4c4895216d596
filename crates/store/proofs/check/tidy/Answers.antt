use Prim.Native.Nat.{ℕ, ◌-◌, ◌<◌}
use native.Mathlib.Omega.{arith}
use native.Mathlib.Decide.{dec_lt}
use borrow.Author.Rules.{rules}
use mathlib.Core.Path.{◌≡◌, refl, subst}
use mathlib.Core.Bool.{true, false}
use lib.ListN.{get_or}
use lib.IntN.{pos}
use Rattle.std.proofs.lemmas.Iterator.{cases_from_all, YieldsList-from_range}
use Rattle.outcomes.specs.Lent.{of_ref}
use Rattle.key.specs.InnerDecides.{Decides}
use Rattle.key.specs.Rank.{rank}
use Rattle.key.specs.Range.{kind_of}
use Rattle.key.proofs.Answers.{fails}
use Rattle.store.specs.InnerCheck.{Follows, Keys}
use Rattle.store.proofs.Checked.{all_steps, step_follows, all_below}
use Rattle.store.proofs.check.tidy.Goals as goal

pub returns-then-all : goal.returns-then-all
returns-then-all c =
    let m = of_ref c.args.m.now in
    let kind = kind_of c.args.kind in
    let last : ℕ = m.count - 1 in
    let good : ℕ → Type 0 = λ k. Follows kind m k × Keys m k in
    let bad : ℕ → Type 0 = λ k. Follows kind m k → ⊥ in
    let f = all_below good bad last c.all.result
    (cases_from_all _ _ c.all.result good bad c.all.ensures.ran (YieldsList-from_range 0 last last refl (omega arith))
    (λ x q k. (search rules, let d : Decides true (Follows kind m x) = search rules in (d.right refl, search rules)))
    (λ x q k. let d : Decides false (Follows kind m x) = search rules in d.wrong refl)) in
    let full : Decides c.full.result (rank (get_or m.starts last (pos 0)) < kind.past (get_or m.ends last (pos 0))) = search rules in
    let keys : Keys m last = search rules in
    record {
      decides = record {
        right = λ t. all_steps kind m last (omega arith) (λ k h. (f.0 c.if-all.true k h).0) (full.right t);
        wrong = λ t w. full.wrong t (w last (omega arith)).full;
      };
      keys = λ t k h. elim (dec_lt k last) [ yes i ↦ (f.0 c.if-all.true k i).1 | no i ↦ let e : last ≡ k = omega arith in subst (Keys m) e keys ];
    }

pub returns-else-all-clause-decides : goal.returns-else-all-clause-decides
returns-else-all-clause-decides c =
    let m = of_ref c.args.m.now in
    let kind = kind_of c.args.kind in
    let last : ℕ = m.count - 1 in
    let good : ℕ → Type 0 = λ k. Follows kind m k × Keys m k in
    let bad : ℕ → Type 0 = λ k. Follows kind m k → ⊥ in
    let f = all_below good bad last c.all.result
    (cases_from_all _ _ c.all.result good bad c.all.ensures.ran (YieldsList-from_range 0 last last refl (omega arith))
    (λ x q k. (search rules, let d : Decides true (Follows kind m x) = search rules in (d.right refl, search rules)))
    (λ x q k. let d : Decides false (Follows kind m x) = search rules in d.wrong refl)) in
    let broken = f.1 c.if-all.false in
    rw c.if-all.false (fails (λ w. broken.2 (step_follows (omega (arith, broken.1)) (w broken.0 (omega (arith, broken.1))))))
