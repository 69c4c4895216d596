-- Document 01, Answers: the table. The code has the same numbers (`numbers_of`).
use Rattle.std.specs.Prelude.{ℕ, List, [], ◌∷◌}

-- done
abbrev pub done : ℕ
done = 0

-- range empty or reversed
abbrev pub empty_range : ℕ
empty_range = 1

-- result would need more ranges than a map has places
abbrev pub too_many : ℕ
too_many = 2

-- lent output too short
abbrev pub too_short : ℕ
too_short = 3

-- lent map or set not well formed
abbrev pub not_formed : ℕ
not_formed = 4

-- not covered, or no such place: an answer, not a fault
abbrev pub none_there : ℕ
none_there = 5

-- bytes not a written map
abbrev pub no_map : ℕ
no_map = 6

-- bad query
abbrev pub bad_query : ℕ
bad_query = 7

-- bad zone or date
abbrev pub bad_day : ℕ
bad_day = 8

-- total over 2^64 - 1
abbrev pub total_over : ℕ
total_over = 9

-- status outside 1 to 4 in the day
abbrev pub bad_status : ℕ
bad_status = 10

-- all of them in their order
abbrev pub numbers : List ℕ
numbers =
    done ∷ empty_range ∷ too_many ∷ too_short ∷ not_formed ∷ none_there ∷ no_map ∷ bad_query ∷ bad_day ∷ total_over ∷ bad_status ∷ []
