-- What the parts of the writer are given.
use Rattle.std.specs.Prelude.{ℕ, ◌≤◌, ◌≡◌, List, length}
use Rattle.outcomes.specs.Stored.{places}
use Rattle.outcomes.specs.declared.Stored.{Stored}
use Rattle.byte_form.specs.Layout.{Layout, form_size}

-- the ranges of a map are there in three columns, and so is their room among the bytes
pub record OutputRoom (layout : Layout) (m : Stored) (bs : List ℕ) : Type 0 where
  pub starts : m.count ≤ length m.starts
  pub ends : length m.ends ≡ length m.starts
  pub values : length m.values ≡ length m.starts
  pub few : m.count ≤ places
  pub bytes : form_size layout m.count ≤ length bs
