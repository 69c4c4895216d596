-- The ranges of two columns, the starts and the ends of a map or a set. No value is read: all are 0.
use Rattle.std.specs.Prelude.{ℕ, List, length, take, drop, replicate, ℤ}
use Rattle.span.specs.Span.{Span}
use Rattle.key.specs.Range.{Kind}
use Rattle.outcomes.specs.Stored.{spans}

-- those of the first n places
unfoldable pub column_rows : Kind → List ℤ → List ℤ → ℕ → List Span
column_rows kind ss es n = take n (spans kind ss es (replicate (length ss) 0))

-- of these the ones at the places from k on
unfoldable pub rest : Kind → List ℤ → List ℤ → ℕ → ℕ → List Span
rest kind ss es n k = drop k (column_rows kind ss es n)
