use mathlib.Core.Path.{◌∙◌, ap}
use mir.Syntax.{w64}
use mir.Val.{to_z}
use mir.Facts.{to_z-of_z}
use Rattle.std.proofs.Common.{rules}
use Rattle.std.specs.Int.{from_le_bytes}
use Rattle.byte_form.specs.Bytes.{i64_size}
use Rattle.byte_form.proofs.Laws.{number_low8, length_part}
use Rattle.byte_form.proofs.number.key_at.Goals as goal

pub returns : goal.returns
returns c =
    let read = number_low8 _ (length_part i64_size c.args.at c.args.bytes.now c.requires) in
    to_z-of_z {w = w64} (search rules)
    ∙ c.from_le_bytes.ensures ∙ ap (λ bs. to_z w64 (from_le_bytes w64 bs)) c.bytes_at-all.ensures ∙ ap (to_z w64) read
