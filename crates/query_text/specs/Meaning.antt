-- Document 01, Query: when a query is true, by what the two maps hold at an instant.
use Rattle.std.specs.Prelude.{ℕ, Bool, false, ◌&&◌, ◌||◌, not, eqb}
use Rattle.std.proofs.Math.Option.{Option, some, none}
use Rattle.query_text.specs.Grammar.{Query, first, second, no, both, either}

-- does a map that holds x hold the value d
abbrev pub holds_value : ℕ → Option ℕ → Bool
holds_value d none = false
holds_value d (some v) = eqb v d

-- IS THE QUERY TRUE where the first map holds x and the second y
unfoldable pub truth : Query → Option ℕ → Option ℕ → Bool
truth (first d) x y = holds_value d x
truth (second d) x y = holds_value d y
truth (no q) x y = not (truth q x y)
truth (both p q) x y = truth p x y && truth q x y
truth (either p q) x y = truth p x y || truth q x y
