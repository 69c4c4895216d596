use mathlib.Core.Path.{◌≡◌, ◌∙◌, ap}
use lib.ListN.{take}
use Rattle.byte_form.specs.Bytes.{u32_size, bytes_of}
use Rattle.byte_form.proofs.Laws.{bytes_low, length_bytes}
use Rattle.byte_form.proofs.Stores.{put_front}
use Rattle.byte_form.proofs.number.put_u32.Goals as goal

pub returns : goal.returns
returns c =
    let n = c.args.n in
    let is : c.copy_from_slice.new.self ≡ bytes_of u32_size n = c.copy_from_slice.ensures.after ∙ ap (take u32_size) c.to_le_bytes.ensures ∙ bytes_low u32_size n in
    rw is (put_front u32_size c.args.out.now (bytes_of u32_size n) (length_bytes u32_size n) c.requires)
