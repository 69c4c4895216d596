-- What is known of bytes that were read, of which no contract can say which they are, and of the map that is loaded from them.
use Rattle.std.specs.Prelude.{ℕ, ◌≤◌, List, length, Result, Ok, Err}
use Rattle.key.specs.Range.{half_open}
use Rattle.outcomes.specs.Stored.{places, Sound}
use Rattle.outcomes.specs.declared.Stored.{Stored}
use Rattle.hourledger.specs.declared.input.NoText.{NoText}

-- what was read has room in the lent bytes
abbrev pub Held : Result ℕ NoText → List ℕ → Type 0
Held (Ok n) bytes = n ≤ length bytes
Held (Err why) bytes = Unit {0}

-- a map that was loaded is sound, and has no more ranges than places
pub record Loaded (m : Stored) : Type 0 where
  pub sound : Sound half_open m
  pub held : m.count ≤ places
