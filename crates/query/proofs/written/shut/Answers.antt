use Prim.Native.Nat.{ℕ}
use native.Mathlib.Omega.{arith}
use mathlib.Core.Path.{◌≡◌, refl, sym, ◌∙◌}
use mir.Val.{of_z}
use mir.Syntax.{w64}
use Rattle.key.proofs.Laws.{tests}
use Rattle.range_list.proofs.Answering.{put_start}
use Rattle.key.proofs.Answers.{never}
use Rattle.query.proofs.written.shut.Goals as goal
use Rattle.query.proofs.written.shut.Goals.{then-key-start-via-then-key-start, then-key-start-via-else-key-start+then-on}

pub returns-then-key-start : goal.returns-then-key-start
returns-then-key-start c = record {
  goes_on = λ e. (refl, refl, refl);
  none_is = λ h. (refl, refl, refl);
  ends = λ e h. elim c.then-key-start.branch [
    | then-key-start-via-then-key-start w ↦ absurd (omega (arith, tests, w.if-key-start.true))
    | then-key-start-via-else-key-start+then-on w ↦ absurd (never (sym e ∙ w.if-on.true))
  ];
}

pub put-requires : goal.put-requires
put-requires c = c.requires c.if-on.false (omega (arith, tests, c.if-key-start.false))

pub overflow_add-result : goal.overflow_add-result
overflow_add-result c =
    omega (arith, c.requires c.if-on.false (omega (arith, tests, c.if-key-start.false)), c.well_formed)

pub returns : goal.returns
returns c =
    record {
      goes_on = λ e. let y = c.if-on.false in let z : ◌≡◌ {A = ℕ} 0 1 = cc in absurd (omega arith);
      none_is = λ h. absurd (omega (arith, tests, c.if-key-start.false));
      ends = λ e h. (
        refl,
        put_start c.args.out_starts.now c.args.n (of_z w64 c.args.start) c.put.ensures.0,
        put_start c.args.out_ends.now c.args.n (of_z w64 c.args.key) c.put.ensures.1,
      );
    }
