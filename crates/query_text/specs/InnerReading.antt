-- What the functions of the reader answer, in the terms of the reader's definition.
use Rattle.std.specs.Prelude.{ℕ, ◌-◌, ◌≤◌, ◌≡◌, List, Option, Some, None, length, drop}
use Rattle.query_text.specs.Grammar.{Query, no, Level, factor, sum, open_limit}
use Rattle.query_text.specs.Reader.{Read, got, bad, behind, and_then, deeper, closed, read_level}
use Rattle.query_text.specs.InnerClasses.{class_truth}
use Rattle.query_text.specs.InnerTable.{Shows}
use Rattle.query_text.specs.declared.cursor.Cursor.{Cursor}
use Rattle.query_text.specs.declared.truth.Truth.{Truth}
use Rattle.query_text.specs.declared.reader.Reading.{Reading}

-- what is read at a level from a cursor on
abbrev pub here : Level → List ℕ → Cursor → Read
here l bytes c = read_level l (open_limit - c.marks) (drop c.at bytes)

-- what is read from a `!` on
abbrev pub negation : ℕ → List ℕ → Read
negation n bs = deeper n (λ m. and_then (read_level factor m (behind bs)) (λ q rest. got (no q) rest))

-- what is read from a `(` on
abbrev pub grouping : ℕ → List ℕ → Read
grouping n bs = deeper n (λ m. and_then (read_level sum m (behind bs)) closed)

-- a query was read; the cursor d stands behind it, with n marks open; and t is the query's table
pub record Finds (bytes : List ℕ) (n : ℕ) (x : Read) (d : Cursor) (t : Truth) : Type 0 where
  pub query : Query
  pub is : x ≡ got query (drop d.at bytes)
  pub inside : d.at ≤ length bytes
  pub back : d.marks ≡ n
  pub table : Shows t (class_truth query)

-- the code's answer is what is read
abbrev pub ReadAs : List ℕ → ℕ → Read → Reading → Type 0
ReadAs bytes n x (Reading.Got d t) = Finds bytes n x d t
ReadAs bytes n x Reading.Bad = x ≡ bad

-- the same of a function inside the reader
abbrev pub Reads : List ℕ → ℕ → Read → Option (Cursor × Truth) → Type 0
Reads bytes n x (Some (d, t)) = Finds bytes n x d t
Reads bytes n x None = x ≡ bad
