-- How an edit went, as functions tell each other: done, or why it is refused.
use Rattle.std.specs.Prelude.{ℕ, ◌≡◌, Ok, Err}
use Rattle.answers.specs.Answers.{done}
use Rattle.answers.specs.Refusals.{number}
use Rattle.outcomes.specs.declared.Stored.{Stored}
use Rattle.outcomes.specs.Outcomes.{Edited}
use Rattle.outcomes.specs.Answered.{Outcome}

-- its number
abbrev pub outcome_in_c : Outcome → ℕ
outcome_in_c (Ok u) = done
outcome_in_c (Err why) = number why

-- what an edit answers and leaves: its outcome, and the map
pub record Leaves (r : Outcome) (m : Stored) (e : Edited) : Type 0 where
  pub outcome : outcome_in_c r ≡ e.answer
  pub map_is : m ≡ e.left
