use Rattle.hours.proofs.Quotient.{quotient}
use Rattle.hours.proofs.hours.Goals as goal

pub returns : goal.returns
returns c = rw c.from.ensures (quotient c.args.seconds c.ranges.seconds.fits)
