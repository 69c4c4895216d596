use mathlib.Core.Path.{◌≡◌, ◌∙◌}
use mir.Syntax.{w64}
use mir.Val.{of_z}
use mir.Facts.{to_z-of_z}
use Rattle.byte_form.specs.Bytes.{i64_size, bytes_of}
use Rattle.byte_form.proofs.Laws.{bytes_low, length_bytes}
use Rattle.byte_form.proofs.Stores.{put_front}
use Rattle.byte_form.proofs.number.put_key.Goals as goal

pub returns : goal.returns
returns c =
    let n = of_z w64 c.args.a in
    let written = rw (to_z-of_z c.ranges.a) at c.to_le_bytes.ensures in
    let is : c.copy_from_slice.new.self ≡ bytes_of i64_size n = c.copy_from_slice.ensures.after ∙ written ∙ bytes_low i64_size n in
    rw is (put_front i64_size c.args.out.now (bytes_of i64_size n) (length_bytes i64_size n) c.requires)
