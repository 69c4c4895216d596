-- WHAT THE EXPORTED QUERIES PROMISE.
-- Each is over what a caller sees: what is lent, at entry and (with a prime) at exit; the other arguments; and last the answer as C and Rust have it.
use Rattle.std.specs.Prelude.{ℕ, ◌≡◌, List, ℤ}
use Rattle.outcomes.specs.Numbers.{asked_in_c}
use Rattle.map.specs.Map.{held}
use Rattle.query.specs.Answers.{query_at, query_at_sound, query_ranges, query_ranges_sound}
use Rattle.outcomes.specs.Outcomes.{Listed}
use Rattle.map.specs.declared.RangeMap.{RangeMap}
use Rattle.outcomes.specs.declared.Count.{Count}
use Rattle.outcomes.specs.declared.Told.{Told}

-- `range_map_query_at`: whether one instant is in the result of a query in the window start..end. Outside the window it is not. Refusals: 4 a map, 1
-- the window, 7 the bytes.
abbrev pub RangeMapQueryAt : RangeMap → RangeMap → ℤ → ℤ → List ℕ → ℤ → Told → Type 0
RangeMapQueryAt a b start end bytes key r = r ≡ asked_in_c (query_at (held a) (held b) start end bytes key)

-- `range_map_query_at_unchecked`: the same of one instant, of maps that must be well formed.
abbrev pub RangeMapQueryAtUnchecked : RangeMap → RangeMap → ℤ → ℤ → List ℕ → ℤ → Told → Type 0
RangeMapQueryAtUnchecked a b start end bytes key r = r ≡ asked_in_c (query_at_sound (held a) (held b) start end bytes key)

-- `range_map_query`: the true instants of a query in the window start..end, as maximal ranges, into the first places of two lent lists, and how many
-- there are. Refusals: 4 a map, 1 the window, 7 the bytes, 3 the lists.
abbrev pub RangeMapQuery : RangeMap → RangeMap → ℤ → ℤ → List ℕ → List ℤ → List ℤ → List ℤ → List ℤ → Count → Type 0
RangeMapQuery a b start end bytes outStarts outStarts' outEnds outEnds' r =
    Listed r outStarts' outEnds' (query_ranges (held a) (held b) start end bytes outStarts outEnds)

-- `range_map_query_unchecked`: the same ranges, of maps that must be well formed.
abbrev pub RangeMapQueryUnchecked : RangeMap → RangeMap → ℤ → ℤ → List ℕ → List ℤ → List ℤ → List ℤ → List ℤ → Count → Type 0
RangeMapQueryUnchecked a b start end bytes outStarts outStarts' outEnds outEnds' r =
    Listed r outStarts' outEnds' (query_ranges_sound (held a) (held b) start end bytes outStarts outEnds)
