-- Where a walk along the instants stands in one map, and what it sees there.
use Rattle.std.specs.Prelude.{ℕ, ◌≤◌, ◌<◌, ◌≡◌, List, length, get_or, drop}
use Rattle.span.specs.Span.{Span, span, at}
use Rattle.query_text.specs.InnerClasses.{class_of}

-- what stands behind the last place
abbrev pub none_there_span : Span
none_there_span = span 0 0 0

-- place i trails p: the ranges before it are gone by then
pub record Trails (xs : List Span) (i p : ℕ) : Type 0 where
  pub placed : i ≤ length xs
  pub gone : (k : ℕ) → p ≤ k → at xs k ≡ at (drop i xs) k

-- place i is the first whose range ends after p: those before it are gone, and it is not
pub record Standing (xs : List Span) (i p : ℕ) : Type 0 where
  pub trails : Trails xs i p
  pub ahead : i < length xs → p < (get_or xs i none_there_span).hi

-- from p up to u, which is at most e, the map holds what is of the class n; and place i trails p
pub record Sees (xs : List Span) (p e u n i : ℕ) : Type 0 where
  pub on : p < u
  pub within : u ≤ e
  pub class : n ≤ 10
  pub holds : (k : ℕ) → p ≤ k → k < u → class_of (at xs k) ≡ n
  pub trails : Trails xs i p
