-- A list of ranges while it is written into two lent lists, one by one: what was written, and what is still to be.
-- `Room` and `Puts` are those of the crate `range_list`.
use Rattle.std.specs.Prelude.{ℕ, ◌+◌, ◌≡◌, List, length, ℤ}
use Rattle.std.proofs.lemmas.List.Edits.{sets}
use Rattle.span.specs.Span.{Span}
use Rattle.key.specs.Range.{Kind}
use Rattle.range_list.specs.InnerLists.{starts_of, ends_of, Puts}

-- so many were counted, and those are still to be
pub record Counting (goal : List Span) (at : ℕ) (todo : List Span) : Type 0 where
  pub sum : at + length todo ≡ length goal

-- the goal is to be written from place n on: it is written up to place `at`, and those are still to be, from there on
pub record Going (kind : Kind) (n : ℕ) (os oe : List ℤ) (goal : List Span) (at : ℕ) (todo : List Span) (os₁ oe₁ : List ℤ) : Type 0 where
  pub count : at + length todo ≡ n + length goal
  pub starts_as : length os₁ ≡ length os
  pub ends_as : length oe₁ ≡ length oe
  pub starts : sets os₁ at (starts_of todo) ≡ sets os n (starts_of goal)
  pub ends : sets oe₁ at (ends_of kind todo) ≡ sets oe n (ends_of kind goal)

-- ranges were written from place n on, and with those before them there are r
pub record Ended (kind : Kind) (n : ℕ) (xs : List Span) (os oe : List ℤ) (r : ℕ) (os₁ oe₁ : List ℤ) : Type 0 where
  pub count : r ≡ n + length xs
  pub puts : Puts kind n xs os oe os₁ oe₁
