-- Ranges as document 01 writes them: a line START..END>VALUE for each range of a map, and a line START..END for each range of a query's result.
use Rattle.std.specs.Prelude.{ℕ, ◌+◌, ◌*◌, List, [], ◌∷◌, ◌++◌, get_or, ℤ, pos}
use Rattle.outcomes.specs.Stored.{places}
use Rattle.outcomes.specs.declared.Stored.{Stored}
use Rattle.decimal.specs.Decimal.{signed_text}
use Rattle.filling.specs.Filling.{ascii, filled_in, series}

-- START..END
unfoldable pub range_text : ℤ → ℤ → List ℕ
range_text s e = signed_text s ++ ascii ".." ++ signed_text e

-- the line of a range of a map
unfoldable pub range_line : ℤ → ℤ → ℕ → List ℕ
range_line s e v = range_text s e ++ filled_in (ascii ">{\n") (v ∷ [])

-- the line of a range of a result, which holds no value
unfoldable pub result_line : ℤ → ℤ → List ℕ
result_line s e = range_text s e ++ ascii "\n"

-- THE RANGES OF A MAP, place by place
unfoldable pub ranges_text : Stored → List ℕ
ranges_text m = series (λ k. range_line (get_or m.starts k (pos 0)) (get_or m.ends k (pos 0)) (get_or m.values k 0)) m.count

-- the most ranges of a result: the instants that two maps tell apart lie between their starts and ends
abbrev pub results : ℕ
results = 2 * places + 1

-- THE FIRST n RANGES of a result, place by place
unfoldable pub result_text : List ℤ → List ℤ → ℕ → List ℕ
result_text ss es n = series (λ k. result_line (get_or ss k (pos 0)) (get_or es k (pos 0))) n
