use Prim.Native.Nat.{◌+◌, ◌≤◌}
use mathlib.Core.Path.{◌≡◌}
use lib.ListN.{length}
use Rattle.edit_lines.specs.Parts.{lines_of}
use Rattle.edit_lines.specs.Making.{makes}
use Rattle.edit_lines.proofs.lines_done.Given as goal

abbrev pub invariant-loop-line : goal.invariant-loop-line
invariant-loop-line l =
    (l.n + length l.rest ≤ length l.text)
    × (makes 0 l.initial.m (lines_of l.text) ≡ makes l.n l.m (lines_of l.rest))

abbrev pub decreases-loop-line : goal.decreases-loop-line
decreases-loop-line l = length l.rest
