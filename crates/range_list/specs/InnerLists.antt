-- A list of ranges that is written into two lent lists, of starts and of ends.
use Rattle.std.specs.Prelude.{ℕ, ◌+◌, ◌≤◌, ◌≡◌, List, map, length, ℤ}
use Rattle.std.proofs.lemmas.List.Edits.{sets}
use Rattle.span.specs.Span.{Span}
use Rattle.key.specs.Rank.{key_at}
use Rattle.key.specs.Range.{Kind}
use Rattle.outcomes.specs.Outcomes.{Written}
use Rattle.outcomes.specs.Answered.{Counted}

-- what a door answers, and what the two lent lists hold then
abbrev pub wrote : Counted → List ℤ → List ℤ → Written
wrote r ss es = record { answer = r; starts = ss; ends = es }

-- the starts and the ends that are written for ranges
abbrev pub starts_of : List Span → List ℤ
starts_of xs = map (λ (x : Span). key_at x.lo) xs

abbrev pub ends_of : Kind → List Span → List ℤ
ends_of kind xs = map (λ (x : Span). kind.ending x.hi) xs

-- from place n on, two lent lists have room for ranges
pub record ListRoom (n : ℕ) (xs : List Span) (os oe : List ℤ) : Type 0 where
  pub starts : n + length xs ≤ length os
  pub ends : n + length xs ≤ length oe

-- with the ranges written there, the lists os and oe become os₁ and oe₁
pub record Puts (kind : Kind) (n : ℕ) (xs : List Span) (os oe os₁ oe₁ : List ℤ) : Type 0 where
  pub starts : os₁ ≡ sets os n (starts_of xs)
  pub ends : oe₁ ≡ sets oe n (ends_of kind xs)
