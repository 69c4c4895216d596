-- The walk that finds the gaps. `kind` is `half_open` or `inclusive`.
use Rattle.std.specs.Prelude.{ℕ, ◌≤◌, ◌≡◌, cond, List, [], ◌∷◌, ◌++◌, leb, length, ℤ}
use Rattle.span.specs.Span.{Span, span, keep}
use Rattle.key.specs.Rank.{rank}
use Rattle.key.specs.Range.{Kind}
use Rattle.key.specs.declared.Bounds.{Bounds}
use Rattle.range_list.specs.InnerColumns.{rest}

-- the gap from c up to d, if there is one
unfoldable pub gap : ℕ → ℕ → List Span
gap c d = keep (span c d 0) []

-- the gaps from c up to hi among ranges that ascend, of which none ends by c: one before each range, until a range reaches hi, and then one up to hi
unfoldable pub gaps_from : ℕ → ℕ → List Span → List Span
gaps_from c hi [] = span c hi 0 ∷ []
gaps_from c hi (x ∷ xs) = let more = gaps_from x.hi hi xs in cond (leb hi x.lo) (span c hi 0 ∷ []) (gap c x.lo ++ cond (leb hi x.hi) [] more)

-- what the walk from place k on finds in the outer range
abbrev pub gaps_found : Kind → List ℤ → List ℤ → ℕ → ℕ → Bounds → List Span
gaps_found kind ss es n k outer = gaps_from (rank outer.start) (kind.past outer.end) (rest kind ss es n k)

-- the places from k up to n are there in both lists
pub record Places (n k : ℕ) (ss es : List ℤ) : Type 0 where
  pub held : n ≤ length ss
  pub ends_as : length es ≡ length ss
  pub from : k ≤ n
