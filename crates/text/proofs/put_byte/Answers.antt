use mathlib.Core.Path.{refl}
use lib.ListN.{length-set}
use Rattle.text.proofs.put_byte.Goals as goal

pub shape_of-out : goal.shape_of-out
shape_of-out c = simp length-set

pub returns : goal.returns
returns c = record { upto = refl; puts = refl }
