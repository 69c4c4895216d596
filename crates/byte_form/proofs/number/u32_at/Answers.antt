use native.Mathlib.Omega.{arith}
use mathlib.Core.Path.{◌∙◌, ap}
use Rattle.std.specs.Int.{w32, from_le_bytes}
use Rattle.byte_form.specs.Bytes.{u32_size}
use Rattle.byte_form.proofs.Laws.{number_low4, length_part}
use Rattle.byte_form.proofs.number.u32_at.Goals as goal

pub returns : goal.returns
returns c =
    let read = number_low4 _ (length_part u32_size c.args.at c.args.bytes.now c.requires) in
    (c.from.ensures ∙ c.from_le_bytes.ensures ∙ ap (from_le_bytes w32) c.bytes_at-all.ensures ∙ read, omega (arith, c.from.ensures, c.from_le_bytes.type_inv))
