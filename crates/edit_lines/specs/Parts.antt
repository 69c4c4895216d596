-- docs/PROGRAM.md, Make: the lines of a text and the words of a line.
use Rattle.std.specs.Prelude.{ℕ, cond, List, [], ◌∷◌, eqb}

-- a byte in front of the first part; where there is no part, it is one by itself
unfoldable pub ahead : ℕ → List (List ℕ) → List (List ℕ)
ahead x [] = (x ∷ []) ∷ []
ahead x (p ∷ ps) = (x ∷ p) ∷ ps

-- the parts that a byte parts a text into. `nothing` is what an end with no byte behind it is: no part, or an empty one
unfoldable pub parts_at : ℕ → List (List ℕ) → List ℕ → List (List ℕ)
parts_at b nothing [] = nothing
parts_at b nothing (x ∷ xs) = let ps = parts_at b nothing xs in cond (eqb x b) ([] ∷ ps) (ahead x ps)

-- THE LINES of a text: each ends at a newline, and the last may end without one
abbrev pub lines_of : List ℕ → List (List ℕ)
lines_of text = parts_at 10 [] text

-- THE WORDS of a line: one space stands between two
abbrev pub words_of : List ℕ → List (List ℕ)
words_of line = parts_at 32 ([] ∷ []) line
