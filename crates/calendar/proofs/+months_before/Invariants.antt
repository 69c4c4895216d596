-- The measure of months_before is the month.
use Rattle.calendar.proofs.+months_before.Given as goal

abbrev pub decreases-months_before : goal.decreases-months_before
decreases-months_before l = l.month
