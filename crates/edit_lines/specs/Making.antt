-- docs/PROGRAM.md, Make: the edit that a line is, and what the lines of a text make from nothing.
use Rattle.std.specs.Prelude.{ℕ, ℤ, suc, ◌≡◌, cond, List, [], ◌∷◌, eqb, ltb, Option as Maybe, Some, None, Result, Ok, Err, ⊤}
use Rattle.std.proofs.Math.Option.{Option, some, none}
use Rattle.answers.specs.Answers.{done}
use Rattle.answers.specs.Refusals.{number}
use Rattle.answers.specs.declared.Refusal.{Refusal}
use Rattle.key.specs.Range.{half_open}
use Rattle.outcomes.specs.declared.Stored.{Stored}
use Rattle.outcomes.specs.Outcomes.{Change, edit, clear}
use Rattle.byte_form.specs.Form.{same_bytes}
use Rattle.decimal.specs.Reading.{read_number, read_signed}
use Rattle.filling.specs.Filling.{ascii, filled_in}
use Rattle.edit_lines.specs.Parts.{lines_of, words_of}
use Rattle.edit_lines.specs.declared.Line.{Line}
use Rattle.edit_lines.specs.declared.NotMade.{NotMade}

-- the word insert
abbrev pub insert_word : List ℕ
insert_word = ascii "insert"

-- the word remove
abbrev pub remove_word : List ℕ
remove_word = ascii "remove"

-- insert START END VALUE: the value is 0 to 255
abbrev pub insert_of : Maybe ℤ → Maybe ℤ → Maybe ℕ → Maybe Line
insert_of (Some s) (Some e) (Some v) = cond (ltb v 256) (Some (Line.Insert s e v)) None
insert_of (Some s) (Some e) None = None
insert_of (Some s) None v = None
insert_of None e v = None

-- remove START END
abbrev pub remove_of : Maybe ℤ → Maybe ℤ → Maybe Line
remove_of (Some s) (Some e) = Some (Line.Remove s e)
remove_of (Some s) None = None
remove_of None e = None

-- a line of these words
abbrev pub words_line : List (List ℕ) → Maybe Line
words_line [] = None
words_line (w ∷ []) = None
words_line (w ∷ s ∷ []) = None
words_line (w ∷ s ∷ e ∷ []) = cond (same_bytes w remove_word) (remove_of (read_signed s) (read_signed e)) None
words_line (w ∷ s ∷ e ∷ v ∷ []) = cond (same_bytes w insert_word) (insert_of (read_signed s) (read_signed e) (read_number v)) None
words_line (w ∷ s ∷ e ∷ v ∷ x ∷ xs) = None

-- THE LINE that bytes are, if they are an edit
unfoldable pub line_of : List ℕ → Maybe Line
line_of bytes = words_line (words_of bytes)

-- the edit of a map that a line is
abbrev pub change_of : Maybe Line → Option Change
change_of (Some (Line.Insert s e v)) = some (record { start = s; end = e; new = some v })
change_of (Some (Line.Remove s e)) = some (record { start = s; end = e; new = none })
change_of None = none

-- how the lines of a text went. Lines count from 1; a refusal has the number of document 01's table
pub data Made : Type 0 where
  Done : Made
  Refused : ℕ → ℕ → Made
  NotAnEdit : ℕ → Made

-- the same, by what `make` answers
abbrev pub made : Result ⊤ NotMade → Made
made (Ok u) = Done
made (Err (NotMade.Refused n a)) = Refused n a
made (Err (NotMade.NotAnEdit n)) = NotAnEdit n

-- a refusal tells the number of a fault of document 01's table
abbrev pub TellsFault : Made → Type 0
TellsFault Done = ⊤
TellsFault (Refused n a) = (why : Refusal) × (a ≡ number why)
TellsFault (NotAnEdit n) = ⊤

-- what `make` answers, and the map that it leaves
pub record Making : Type 0 where
  pub told : Made
  pub left : Stored

abbrev pub making : Made → Stored → Making
making r m = record { told = r; left = m }

-- line n, done on a map: it stops there if it is no edit or is refused, and what is behind it goes on from the map that it leaves
abbrev pub line_done : ℕ → Stored → Option Change → (Stored → Making) → Making
line_done n m none behind = making (NotAnEdit n) m
line_done n m (some c) behind =
    let one = edit half_open m c.start c.end c.new in
    cond (eqb one.answer done) (behind one.left) (making (Refused n one.answer) one.left)

-- lines in order; n stand before them
unfoldable pub makes : ℕ → Stored → List (List ℕ) → Making
makes n m [] = making Done m
makes n m (l ∷ ls) = line_done (suc n) m (change_of (line_of l)) (λ (left : Stored). makes (suc n) left ls)

-- WHAT A TEXT MAKES, from nothing
unfoldable pub made_of : List ℕ → Making
made_of text = makes 0 (clear half_open) (lines_of text)

-- what is said of a text that makes nothing: its line, and the answer of document 01's table or that it is no edit
unfoldable pub told_text : Made → List ℕ
told_text Done = []
told_text (Refused n a) = filled_in (ascii "line {: {\n") (n ∷ a ∷ [])
told_text (NotAnEdit n) = filled_in (ascii "line {: not an edit\n") (n ∷ [])
