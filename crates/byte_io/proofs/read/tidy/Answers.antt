use native.Mathlib.Omega.{arith}
use Prim.Native.Nat.{ℕ}
use mathlib.Core.Path.{refl}
use borrow.Author.Rules.{rules}
use Rattle.std.proofs.lemmas.Iterator.{cases_from_all, YieldsList-from_range}
use Rattle.key.specs.Range.{half_open}
use Rattle.store.specs.InnerCheck.{Step}
use Rattle.byte_form.specs.Layout.{rm01}
use Rattle.byte_io.specs.InnerRead.{told}
use Rattle.byte_io.proofs.Reading.{count_told}
use Rattle.byte_io.proofs.Steps.{all_decides, is_so, is_not}
use Rattle.byte_io.proofs.read.tidy.Goals as goal

pub returns : goal.returns
returns c =
    let a = c.args in
    let yes : ℕ → Type 0 = Step half_open (told rm01 a.count a.bytes.now) in
    all_decides yes a.count _ c.all.result (count_told rm01 a.count a.bytes.now)
    (cases_from_all _ _ c.all.result yes (λ k. yes k → ⊥) c.all.ensures.ran (YieldsList-from_range 0 a.count a.count refl (omega arith)) (λ x q k. (search rules, is_so (search rules))) (λ x q k. is_not (search rules)))
