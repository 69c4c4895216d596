use Rattle.hourledger.proofs.Loaded.{read_loaded}
use Rattle.hourledger.proofs.form.load.Goals as goal

pub returns-clause-loaded : goal.returns-clause-loaded
returns-clause-loaded c = read_loaded _ c.args.form.now c.read.result c.read.ensures
