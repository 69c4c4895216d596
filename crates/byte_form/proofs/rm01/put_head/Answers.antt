use native.Mathlib.Omega.{arith}
use mathlib.Core.Path.{refl, ap, ◌∙◌}
use mathlib.Core.List.{List, ◌++◌}
use Prim.Native.Nat.{ℕ}
use lib.ListN.{drop}
use Rattle.byte_form.specs.Bytes.{u32_size, bytes_of}
use Rattle.byte_form.specs.Layout.{rm01}
use Rattle.byte_form.proofs.Laws.{length_bytes}
use Rattle.byte_form.proofs.Stores.{put_front, two_runs}
use Rattle.byte_form.proofs.rm01.put_head.Goals as goal

pub returns : goal.returns
returns c =
    let a = c.args in
    let mark = ap (λ (l : List ℕ). l ++ drop u32_size a.out.now) c.copy_from_slice.ensures.after ∙ put_front u32_size a.out.now rm01.mark refl (omega (arith, c.requires)) in
    two_runs a.out.now rm01.mark (bytes_of u32_size a.count) u32_size mark c.put_u32.ensures refl (omega (arith, length_bytes u32_size a.count))
