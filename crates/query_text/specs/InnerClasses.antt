-- What a map holds at an instant, by its class: no digit of a query tells apart what is none, or over 9. A law says that the class is enough (`by_class`).
use Rattle.std.specs.Prelude.{ℕ, min, Bool, true, false, ◌&&◌, ◌||◌, not, eqb}
use Rattle.std.proofs.Math.Option.{Option, some, none}
use Rattle.query_text.specs.Grammar.{Query, first, second, no, both, either}

-- the values 0 to 9 are classes of their own, and all else is class 10
abbrev pub class_of : Option ℕ → ℕ
class_of none = 10
class_of (some v) = min v 10

-- the atom of a digit: of the second map, or else of the first
abbrev pub atom_of : Bool → ℕ → Query
atom_of true = second
atom_of false = first

-- is the query true of two classes
unfoldable pub class_truth : Query → ℕ → ℕ → Bool
class_truth (first d) a b = eqb a d
class_truth (second d) a b = eqb b d
class_truth (no q) a b = not (class_truth q a b)
class_truth (both p q) a b = class_truth p a b && class_truth q a b
class_truth (either p q) a b = class_truth p a b || class_truth q a b
