use Rattle.std.proofs.Common.{arith}
use Rattle.hourledger.proofs.Loaded.{queried_within}
use Rattle.hourledger.proofs.asked.of_query.Goals as goal

pub show-requires : goal.show-requires
show-requires c = omega (arith, queried_within _ _ _ _ _ _ _ c.query.ensures c.in-Ok.is)
