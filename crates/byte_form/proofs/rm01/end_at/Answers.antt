use mathlib.Core.Path.{sym, ap, ◌∙◌}
use mathlib.Core.List.{List}
use Prim.Native.Nat.{ℕ}
use lib.ListN.{take}
use lib.Seq.{drop-drop}
use mir.Syntax.{w64}
use mir.Facts.{to_z-of_z}
use borrow.Author.Rules.{sfits_of}
use Rattle.byte_form.specs.Bytes.{i64_size, key_of, range_in}
use Rattle.byte_form.proofs.rm01.end_at.Goals as goal

pub returns : goal.returns
unfolding range_in
returns c =
    let a = c.args in
    to_z-of_z {w = w64} (sfits_of c.key_at.type_inv) ∙ c.key_at.ensures
    ∙ sym (ap (λ (l : List ℕ). key_of (take i64_size l)) (drop-drop i64_size a.at a.bytes.now))
