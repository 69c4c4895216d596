-- The years for which the code counts days: those of the ledger, the years from 1970 on before them, and the one after.
use Rattle.std.specs.Prelude.{ℕ, ◌≤◌}

pub record Known (y : ℕ) : Type 0 where
  pub from : 1970 ≤ y
  pub to : y ≤ 2100
