use Rattle.std.proofs.Common.{arith}
use Rattle.hourledger.proofs.Loaded.{written_within}
use Rattle.hourledger.proofs.made.write_form.Goals as goal

pub print-requires : goal.print-requires
print-requires c = omega (arith, written_within _ _ c.write.ensures c.in-Ok.is)
