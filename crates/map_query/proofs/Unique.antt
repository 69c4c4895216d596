-- ONE OUTCOME of each exported function, over what a caller sees: two outcomes that meet its promise are equal, the answer and all lent memory.
-- `range_map_query_one`, `range_map_query_unchecked_one`: the number, the count and both lent lists.
-- `range_map_query_at_one`, `range_map_query_at_unchecked_one`: the number and the answer.
use Prim.Native.Nat.{ℕ}
use mathlib.Core.Path.{◌≡◌}
use mathlib.Core.List.{List}
use lib.IntN.{ℤ}
use Rattle.key.proofs.Answers.{one_answer}
use Rattle.outcomes.specs.Numbers.{asked_in_c}
use Rattle.outcomes.specs.Outcomes.{Written, Listed}
use Rattle.outcomes.specs.Answered.{Asked}
use Rattle.outcomes.specs.declared.Count.{Count}
use Rattle.outcomes.specs.declared.Told.{Told}
use Rattle.outcomes.proofs.Unique.{list_one}
use Rattle.map.specs.Map.{held}
use Rattle.map.specs.declared.RangeMap.{RangeMap}
use Rattle.query.specs.Answers.{query_ranges_sound, query_ranges, query_at_sound, query_at}

-- what is written has one outcome
abbrev OneList : Written → Type 0
OneList w = (r t : Count) (ss es ss' es' : List ℤ) → Listed r ss es w → Listed t ss' es' w → (r ≡ t) × (ss ≡ ss') × (es ≡ es')

-- what is told has one outcome
abbrev OneTold : Asked → Type 0
OneTold x = (r t : Told) → r ≡ asked_in_c x → t ≡ asked_in_c x → r ≡ t

module _ (a b : RangeMap) (s e : ℤ) (bytes : List ℕ) where
  pub range_map_query_one : (os oe : List ℤ) → OneList (query_ranges (held a) (held b) s e bytes os oe)
  range_map_query_one os oe r t ss es ss' es' x y = list_one x y

  pub range_map_query_unchecked_one : (os oe : List ℤ) → OneList (query_ranges_sound (held a) (held b) s e bytes os oe)
  range_map_query_unchecked_one os oe r t ss es ss' es' x y = list_one x y

  pub range_map_query_at_one : (k : ℤ) → OneTold (query_at (held a) (held b) s e bytes k)
  range_map_query_at_one k r t x y = one_answer x y

  pub range_map_query_at_unchecked_one : (k : ℤ) → OneTold (query_at_sound (held a) (held b) s e bytes k)
  range_map_query_at_unchecked_one k r t x y = one_answer x y
