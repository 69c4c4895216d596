-- Document 01, Query: the result. The true instants in the window from lo up to hi, as a set: a tidy list, and the only one (`result_only`).
-- a and b are the two maps, as lists of spans.
use Rattle.std.specs.Prelude.{ℕ, Bool, ◌&&◌, cond, List, [], ◌∷◌}
use Rattle.std.proofs.Math.Option.{Option, some, none}
use Rattle.span.specs.Span.{Span, span, inside, at}
use Rattle.span.specs.Operations.{uncovered, common, laid_over, chosen}
use Rattle.query_text.specs.Grammar.{Query, first, second, no, both, either}
use Rattle.query_text.specs.Meaning.{truth}

-- THE RESULT: an atom is the part of the window where a map holds the value, `!` the rest of the window, `&` what is common, `|` what is in either
unfoldable pub result : ℕ → ℕ → List Span → List Span → Query → List Span
result lo hi a b (first d) = common (span lo hi 0 ∷ []) (chosen d a)
result lo hi a b (second d) = common (span lo hi 0 ∷ []) (chosen d b)
result lo hi a b (no q) = uncovered lo hi (result lo hi a b q)
result lo hi a b (both p q) = common (result lo hi a b p) (result lo hi a b q)
result lo hi a b (either p q) = laid_over (result lo hi a b p) (result lo hi a b q)

-- is the instant k in the result: it is in the window, and the query is true there
unfoldable pub is_true : ℕ → ℕ → List Span → List Span → Query → ℕ → Bool
is_true lo hi a b q k = inside lo hi k && truth q (at a k) (at b k)

-- what a set holds at an instant: 0 where it is in the set
abbrev pub marked : Bool → Option ℕ
marked t = cond t (some 0) none
