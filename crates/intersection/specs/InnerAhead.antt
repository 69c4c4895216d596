-- A step that reads ahead.
use Rattle.std.specs.Prelude.{ℕ, ◌+◌, ◌≡◌, not}
use mir.Val.{bool_byte}
use Rattle.key.specs.Rank.{rank}
use Rattle.key.specs.declared.RangeKind.{RangeKind}
use Rattle.outcomes.specs.declared.Stored.{Stored}
use Rattle.intersection.specs.InnerFound.{key_rank, Stepped}
use Rattle.intersection.specs.declared.walk.Carried.{Carried}

-- a step at places i and j; and the ends at hand after it
pub record Carries (kind : RangeKind) (a : Stored) (i : ℕ) (b : Stored) (j : ℕ) (r : Carried) : Type 0 where
  pub step : Stepped kind (key_rank a.starts i) (key_rank a.ends i) (key_rank b.starts j) (key_rank b.ends j) r.step.start r.step.end r.step.found r.step.left
  pub ahead_a : rank r.here ≡ key_rank a.ends (i + bool_byte r.step.left)
  pub ahead_b : rank r.there ≡ key_rank b.ends (j + bool_byte (not r.step.left))
