-- docs/PROGRAM.md: which command the words of a command line are. The program's own name is not among them.
use Rattle.std.specs.Prelude.{ℕ, ℤ, min, Bool, true, false, not, ◌&&◌, cond, List, [], ◌∷◌, eqb, leb, Option, Some, None}
use Rattle.byte_form.specs.Form.{same_bytes}
use Rattle.decimal.specs.Reading.{no_leading_zero, read_number, read_signed}
use Rattle.filling.specs.Filling.{ascii, filled_in}
use Rattle.command.specs.declared.Command.{Command}
use Rattle.command.specs.declared.View.{View}

-- ranges, day, graph, query, make, --svg, --help
abbrev pub ranges_word : List ℕ
ranges_word = ascii "ranges"

abbrev pub day_word : List ℕ
day_word = ascii "day"

abbrev pub graph_word : List ℕ
graph_word = ascii "graph"

abbrev pub query_word : List ℕ
query_word = ascii "query"

abbrev pub make_word : List ℕ
make_word = ascii "make"

abbrev pub svg_word : List ℕ
svg_word = ascii "--svg"

abbrev pub help_word : List ℕ
help_word = ascii "--help"

-- are all of these digits
unfoldable pub digits : List ℕ → Bool
digits [] = true
digits (b ∷ t) = (leb 48 b && leb b 57) && digits t

-- is a text a decimal number of any size: one or more digits, no zero before others
abbrev pub natural : List ℕ → Bool
natural t = no_leading_zero t && digits t

-- the same with a minus before it or none; -0 is no number
unfoldable pub decimal : List ℕ → Bool
decimal [] = false
decimal (b ∷ t) = cond (eqb b 45) (natural t && not (same_bytes t (48 ∷ []))) (natural (b ∷ t))

-- a number that is at most `most`, which stands for every decimal number that is greater or negative
abbrev pub at_most : ℕ → Bool → Option ℕ → Option ℕ
at_most most any (Some n) = Some (min n most)
at_most most true None = Some most
at_most most false None = None

-- the number of a zone, a year, a month or a day of the month that a word is. No zone, month or day is `most` if that is 255, and no year is 65535
unfoldable pub number_of : ℕ → List ℕ → Option ℕ
number_of most w = at_most most (decimal w) (read_number w)

-- what is asked for of a day, by the numbers of its zone and date
abbrev pub dated : View → Option ℕ → Option ℕ → Option ℕ → Option ℕ → Command
dated view (Some z) (Some y) (Some m) (Some d) = Command.Dated view z y m d
dated view (Some z) (Some y) (Some m) None = Command.Other
dated view (Some z) (Some y) None d = Command.Other
dated view (Some z) None m d = Command.Other
dated view None y m d = Command.Other

-- ZONE YEAR MONTH DAY
unfoldable pub dated_by : View → List ℕ → List ℕ → List ℕ → List ℕ → Command
dated_by view z y m d = dated view (number_of 255 z) (number_of 65535 y) (number_of 255 m) (number_of 255 d)

-- query, on a window
abbrev pub query_in : Option ℤ → Option ℤ → Command
query_in (Some s) (Some e) = Command.Query s e
query_in (Some s) None = Command.Other
query_in None e = Command.Other

-- THE COMMAND of some words
abbrev pub command_of : List (List ℕ) → Command
command_of [] = Command.Ranges
command_of (w ∷ []) = cond (same_bytes w ranges_word) Command.Ranges
    (cond (same_bytes w make_word) Command.Make (cond (same_bytes w help_word) Command.Help Command.Other))
command_of (w ∷ a ∷ []) = Command.Other
command_of (w ∷ a ∷ b ∷ []) = Command.Other
command_of (w ∷ a ∷ b ∷ c ∷ []) = Command.Other
command_of (w ∷ a ∷ b ∷ c ∷ d ∷ []) =
    cond (same_bytes w day_word) (dated_by View.Report a b c d) (cond (same_bytes w graph_word) (dated_by View.Graph a b c d) Command.Other)
command_of (w ∷ a ∷ b ∷ c ∷ d ∷ e ∷ []) =
    cond (same_bytes w query_word) (query_in (read_signed a) (read_signed b))
    (cond (same_bytes w graph_word && same_bytes e svg_word) (dated_by View.Picture a b c d) Command.Other)
command_of (w ∷ a ∷ b ∷ c ∷ d ∷ e ∷ f ∷ ws) = Command.Other

-- A REFUSAL: its number, and a newline
unfoldable pub refusal_text : ℕ → List ℕ
refusal_text n = filled_in (ascii "{\n") (n ∷ [])
