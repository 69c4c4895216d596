use Prim.Native.Nat.{◌-◌, ◌<◌}
use native.Mathlib.Omega.{arith}
use lib.IntN.{ℤ, pos}
use lib.ListN.{get_or}
use lib.Signed.{lt_z}
use mir.Syntax.{w64}
use mir.Val.{SFits}
use mir.Facts.{to_z-of_z}
use borrow.Author.Rules.{rules}
use borrow.Author.Tests.{ltb-true, ltb-false}
use mathlib.Core.Path.{◌≡◌, refl}
use mathlib.Core.Bool.{Bool, true, false}
use mathlib.Core.List.{List}
use Rattle.std.specs.Bool.{then_some}
use Rattle.key.specs.declared.Entry.{Entry}
use Rattle.edit.specs.InnerPlan.{in_front, kept}
use Rattle.key.specs.Rank.{rank}
use Rattle.key.specs.InnerDecides.{Decides}
use Rattle.key.proofs.Laws.{lt_z_rank}
use Rattle.edit.proofs.Planning.{beside_by, beside_fits}
use Rattle.edit.proofs.plan_over.Goals as goal

-- a test of two keys is one of their ranks
less : {a b : ℤ} → SFits w64 a → SFits w64 b → Decides (lt_z a b) (rank a < rank b)
less {a} {b} f g =
    rw (lt_z_rank a b f g) (record { right = ltb-true (rank a) (rank b); wrong = λ e w. omega (arith, ltb-false (rank a) (rank b) e) })

-- what is kept, if a test says so
kept_then : (b : Bool) (x : Entry) (xs : List Entry) → in_front (then_some b x) xs ≡ kept b x xs
kept_then true x xs = refl
kept_then false x xs = refl

pub overflow_sub-last : goal.overflow_sub-last
overflow_sub-last c = omega (arith, c.requires)

pub overflow_sub-last_value : goal.overflow_sub-last_value
overflow_sub-last_value c = omega (arith, c.requires)

pub returns : goal.returns
returns c =
    let g = c.args in
    let f-first : SFits w64 (get_or c.args.m.now.starts c.args.met.from (pos 0)) = search rules in
    let f-last : SFits w64 (get_or c.args.m.now.ends (c.args.met.to - 1) (pos 0)) = search rules in
    let f-start : SFits w64 c.args.change.start = search rules in
    let f-end : SFits w64 c.args.change.end = search rules in
    let f-below : SFits w64 c.args.met.below = search rules in
    let f-above : SFits w64 c.args.met.above = search rules in
    let l = beside_by (less f-first f-start) (rw (to_z-of_z f-first, to_z-of_z f-start) at c.join_or_keep-left.ensures) in
    let r = beside_by (less f-end f-last) (rw (to_z-of_z f-end, to_z-of_z f-last) at c.join_or_keep-right.ensures) in
    let f-low = beside_fits l f-start f-first in
    let f-high = beside_fits r f-end f-last in
    record {
      left_kept = c.join_or_keep-left.result.kept;
      right_kept = c.join_or_keep-right.result.kept;
      start = c.join_or_keep-left.result.key;
      end = c.join_or_keep-right.result.key;
      left = l;
      right = r;
      brings = simp (c.then_some.ensures, c.then_some-2.ensures, c.placed.ensures, kept_then, to_z-of_z f-first, to_z-of_z f-last, to_z-of_z f-below, to_z-of_z f-above, to_z-of_z f-low, to_z-of_z f-high) at c.bring.ensures;
    }
