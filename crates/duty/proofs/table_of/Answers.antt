use Prim.Native.Nat.{◌<◌}
use native.Mathlib.Omega.{arith}
use Rattle.duty.proofs.Walking.{fewer, second_inside, seconds_first, seconds_end, nothing_added}
use Rattle.duty.proofs.table_of.Goals as goal

pub returns-then-from-to : goal.returns-then-from-to
returns-then-from-to c = let s = c in λ d. nothing_added d (seconds_end s.requires.0 d s.args.from (omega (arith, c.if-from-to.true)))

pub clipped-first-requires : goal.clipped-first-requires
clipped-first-requires c =
    let some : c.args.from < c.args.to =
    omega (arith, c.if-from-to.false, c.requires.0.order) in
    let p = c.requires in (
      fewer p.0 _ _ (omega arith) (omega arith) (omega (arith, some)),
      (λ k i h. p.1 k (omega (arith, some)) h),
      (λ d. omega (arith, p.3 d, seconds_first p.0 d some)),
    )

pub whole-requires : goal.whole-requires
whole-requires c =
    let some : c.args.from < c.args.to =
    omega (arith, c.if-from-to.false, c.requires.0.order) in
    let p = c.requires in
    let h = some in (
      fewer p.0 _ _ (omega arith) (omega arith) (omega arith),
      (λ k i j. p.1 k i (omega arith)),
      (λ k i j. p.2 k (omega arith) j),
      second_inside p.0 p.2,
      (λ d. omega (arith, p.3 d, c.clipped-first.ensures d, seconds_first p.0 d h)),
    )

pub returns : goal.returns
returns c =
    let some : c.args.from < c.args.to =
    omega (arith, c.if-from-to.false, c.requires.0.order) in
    let e = c in
    let p = e.requires in
    λ d. omega (arith, c.clipped-first.ensures d, c.whole.ensures d, seconds_first p.0 d some)
