use Rattle.key.specs.Range.{half_open}
use Rattle.outcomes.specs.Stored.{ranges}
use Rattle.outcomes.specs.Lent.{of_ref}
use Rattle.filling.specs.Filling.{series, AddsWithin}
use Rattle.graph_text.specs.Grid.{cell}
use Rattle.graph_text.proofs.put_cells.Given as goal

abbrev pub invariant-loop-q : goal.invariant-loop-q
invariant-loop-q l = AddsWithin l.q (series (cell (ranges half_open (of_ref l.m)) l.day.start l.row) l.q) l.initial.out l.at l.out l.to
