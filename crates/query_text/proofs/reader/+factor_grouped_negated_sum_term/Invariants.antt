use Rattle.query_text.proofs.Parts.{left}
use Rattle.query_text.proofs.reader.+factor_grouped_negated_sum_term.Given as goal

-- 4 for each byte that is left, and a number for the function: a call takes a byte, or goes to a lesser function
abbrev pub decreases-factor : goal.decreases-factor
decreases-factor l = left l.bytes.now l.c.at 1

abbrev pub decreases-grouped : goal.decreases-grouped
decreases-grouped l = left l.bytes.now l.c.at 0

abbrev pub decreases-negated : goal.decreases-negated
decreases-negated l = left l.bytes.now l.c.at 0

abbrev pub decreases-sum : goal.decreases-sum
decreases-sum l = left l.bytes.now l.c.at 3

abbrev pub decreases-term : goal.decreases-term
decreases-term l = left l.bytes.now l.c.at 2
