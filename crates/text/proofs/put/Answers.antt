use mathlib.Core.Path.{refl}
use Rattle.text.proofs.Laws.{adds_mid}
use Rattle.text.proofs.put.Goals as goal

pub returns : goal.returns
returns c = adds_mid c.args.text.now c.copy_from_slice.ensures.after refl c.requires
