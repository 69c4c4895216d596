-- The ranges of two columns, one place at a time.
use Prim.Native.Nat.{ℕ, ◌+◌, ◌≤◌, ◌<◌}
use native.Mathlib.Omega.{arith}
use native.Mathlib.Numerals.{add-one}
use mathlib.Core.Path.{◌≡◌, refl, ◌∙◌}
use mathlib.Core.List.{List, [], ◌∷◌}
use lib.ListN.{length, get_or, replicate, length-replicate, drop_of_length-le}
use lib.Seq.{drop-cons, get_or-take, length-take-le}
use lib.IntN.{ℤ, pos}
use Rattle.span.specs.Span.{span}
use Rattle.key.specs.Range.{Kind, span_of}
use Rattle.outcomes.specs.Stored.{spans}
use Rattle.outcomes.proofs.Formed.{length_spans, get_or_spans}
use Rattle.outcomes.proofs.Storing.{all_same}
use Rattle.range_list.specs.InnerColumns.{column_rows, rest}

module _ (kind : Kind) (ss es : List ℤ) (n : ℕ) (held : n ≤ length ss) (ends_as : length es ≡ length ss) where
  pub length_rows : length (column_rows kind ss es n) ≡ n
  unfolding column_rows
  length_rows = length-take-le n (spans kind ss es (replicate (length ss) 0)) (omega (arith, length_spans kind ss es (replicate (length ss) 0) ends_as (length-replicate (length ss) 0), held))

  pub rest_all : rest kind ss es n 0 ≡ column_rows kind ss es n
  unfolding rest
  rest_all = refl

  pub rest_none : (k : ℕ) → n ≤ k → rest kind ss es n k ≡ []
  unfolding rest
  rest_none k h = drop_of_length-le (column_rows kind ss es n) {i = k} (omega (arith, length_rows))

  pub rest_more : (k : ℕ) → k < n → rest kind ss es n k ≡ span_of kind (get_or ss k (pos 0)) (get_or es k (pos 0)) 0 ∷ rest kind ss es n (k + 1)
  unfolding rest column_rows
  rest_more k h =
      let here = get_or_spans kind ss es (replicate (length ss) 0) k (span 0 0 0) ends_as (length-replicate (length ss) 0) (omega (arith, held)) in
      drop-cons (column_rows kind ss es n) k (span 0 0 0) (omega (arith, length_rows))
      ∙ rw (get_or-take n (spans kind ss es (replicate (length ss) 0)) k (span 0 0 0) h, here, all_same {A = ℕ} 0 (length ss) k, add-one)
