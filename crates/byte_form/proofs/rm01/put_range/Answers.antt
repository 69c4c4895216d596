use Prim.Native.Nat.{◌*◌}
use native.Mathlib.Omega.{arith}
use mir.Facts.{to_z-of_z}
use mir.Syntax.{w64}
use mir.Val.{of_z}
use Rattle.byte_form.specs.Bytes.{i64_size, key_bytes, range_bytes}
use Rattle.byte_form.proofs.Laws.{length_bytes}
use Rattle.byte_form.proofs.Stores.{three_runs}
use Rattle.byte_form.proofs.rm01.put_range.Goals as goal

pub returns : goal.returns
unfolding range_bytes
returns c =
    let a = c.args in
    let start = rw (to_z-of_z c.ranges.start) at c.put_key.ensures in
    let end = rw (to_z-of_z c.ranges.end) at c.put_key-2.ensures in
    three_runs a.out.now (key_bytes a.start) (key_bytes a.end) a.value i64_size (2 * i64_size) start end
    (length_bytes i64_size (of_z w64 a.start)) (omega (arith, length_bytes i64_size (of_z w64 a.end))) (omega (arith, c.requires))
