use mathlib.Core.Path.{ap, sym, subst}
use Rattle.key.specs.Range.{half_open}
use Rattle.edit_lines.specs.Making.{Making, TellsFault, made_of}
use Rattle.edit_lines.proofs.Run.{make_fault}
use Rattle.edit_lines.proofs.make.Goals as goal

pub returns-clause-made : goal.returns-clause-made
unfolding made_of
returns-clause-made c = rw (c.clear.ensures half_open) at c.lines_done.ensures

pub returns-clause-fault : goal.returns-clause-fault
returns-clause-fault c =
    subst TellsFault (sym (ap (λ (o : Making). o.told) (returns-clause-made c))) (make_fault c.args.text.now)
