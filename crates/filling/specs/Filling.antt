-- Text that is written out, text with numbers filled in, and one text after another.
use Rattle.std.specs.Prelude.{ℕ, zero, suc, ◌+◌, ◌*◌, ◌≤◌, cond, List, [], ◌∷◌, ◌++◌, eqb, length}
use Prim.Native.Char.{code}
use Prim.Native.String.{String, [] as nothing, ◌∷◌ as ◌before◌}
use Rattle.text.specs.Text.{Adds}
use Rattle.decimal.specs.Decimal.{longest_number, decimal_text}

-- the bytes of a text that is written out: the code of each of its characters
abbrev pub ascii : String → List ℕ
ascii nothing = []
ascii (c before cs) = code c ∷ ascii cs

-- where a number is filled in: `{`
abbrev pub hole : ℕ
hole = 123

-- one byte of a text, before these numbers: the first of them at a hole, and else the byte
unfoldable pub piece_of : ℕ → List ℕ → List ℕ
piece_of c [] = c ∷ []
piece_of c (n ∷ ns) = cond (eqb c hole) (decimal_text n) (c ∷ [])

-- the numbers that are left behind it
unfoldable pub left_by : ℕ → List ℕ → List ℕ
left_by c [] = []
left_by c (n ∷ ns) = cond (eqb c hole) ns (n ∷ ns)

-- A TEXT WITH NUMBERS FILLED IN, the first at its first hole, and so on
unfoldable pub filled_in : List ℕ → List ℕ → List ℕ
filled_in [] ns = []
filled_in (c ∷ t) ns = piece_of c ns ++ filled_in t (left_by c ns)

-- the most bytes that it takes
abbrev pub filled_room : List ℕ → List ℕ → ℕ
filled_room t ns = length t + longest_number * length ns

-- the texts of 0, of 1, and so on, of each number below n, one after another
unfoldable pub series : (ℕ → List ℕ) → ℕ → List ℕ
series f zero = []
series f (suc n) = series f n ++ f n

-- a text is put into lent bytes, as `Adds` says, and takes at most `room` of them
pub record AddsWithin (room : ℕ) (text out : List ℕ) (at : ℕ) (out₁ : List ℕ) (r : ℕ) : Type 0 where
  pub adds : Adds text out at out₁ r
  pub within : r ≤ at + room
