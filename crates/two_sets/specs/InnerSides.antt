-- One of the two sets, by its starts and ends. No value is read: all are 0.
use Rattle.std.specs.Prelude.{ℕ, ◌≤◌, ◌≡◌, List, length}
use Rattle.span.specs.Span.{Span, Tidy}
use Rattle.key.specs.Range.{Kind}
use Rattle.outcomes.specs.declared.Stored.{Stored}
use Rattle.range_list.specs.InnerColumns.{column_rows, rest}

-- its ranges
abbrev pub rows : Kind → Stored → List Span
rows kind m = column_rows kind m.starts m.ends m.count

-- those from place k on
abbrev pub rows_from : Kind → Stored → ℕ → List Span
rows_from kind m k = rest kind m.starts m.ends m.count k

-- its places are there in both columns, and their ranges are tidy
pub record Side (kind : Kind) (m : Stored) : Type 0 where
  pub held : m.count ≤ length m.starts
  pub ends_as : length m.ends ≡ length m.starts
  pub tidy : Tidy 0 (rows kind m)
