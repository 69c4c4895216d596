use Prim.Native.Nat.{◌+◌}
use native.Mathlib.Omega.{arith}
use mathlib.Core.Path.{◌≡◌}
use Rattle.decimal.specs.Decimal.{digits_text}
use Rattle.decimal.proofs.Digits.{length_digits}
use Rattle.decimal.proofs.Putting.{none_put, all_left, digit_more}
use Rattle.decimal.proofs.put_digits.Goals as goal

pub loop-i-init : goal.loop-i-init
loop-i-init c = let s = c.args in (all_left s.k s.n, rw (none_put s.k s.n))

pub loop-i-preserved : goal.loop-i-preserved
loop-i-preserved c =
    let l = c.loop-i in
    let s = c.args in
    let w = digit_more (digits_text s.k s.n) s.out.now s.at l.i l.rest (omega arith) l.invariant.0 l.invariant.1 in
    (w.0, rw c.digit_byte.ensures w.1)

pub returns : goal.returns
returns c =
    let l = c.loop-i in
    let s = c.args in
    let i : l.i ≡ 0 = omega arith in
    let z : s.at + 0 ≡ s.at = omega arith in
    record { upto = omega (arith, length_digits s.k s.n); puts = rw (i, z) at l.invariant.1 }
