-- What the functions of the walk say to each other: which places meet the window, and what a table of seconds by status has of them.
-- No promise of an exported function rests on it.
use Rattle.std.specs.Prelude.{ℕ, ◌+◌, ◌-◌, ◌≤◌, ◌<◌, min, max, ◌≡◌, true, List, pos, length, get_or, set, take, drop, replicate}
use Rattle.span.specs.Span.{Span}
use Rattle.span.specs.Labels.{equals}
use Rattle.key.specs.Rank.{rank}
use Rattle.key.specs.Range.{half_open}
use Rattle.key.specs.declared.Bounds.{Bounds}
use Rattle.outcomes.specs.Stored.{spans}
use Rattle.outcomes.specs.declared.Stored.{Stored}
use Rattle.duty.specs.Duty.{is_status, seconds_of}
use Rattle.duty.specs.InnerWalk.{u32_limit, table_length}

-- WHICH PLACES: the values at those from a up to b are statuses
abbrev pub Statuses : List ℕ → ℕ → ℕ → Type 0
Statuses vs a b = (k : ℕ) → k < b → a ≤ k → is_status (get_or vs k 0) ≡ true

-- the ranges at the places from a up to b
abbrev pub part : Stored → ℕ → ℕ → List Span
part m a b = drop a (take b (spans half_open m.starts m.ends m.values))

-- they meet the window
pub record Met (m : Stored) (window : Bounds) (a b : ℕ) : Type 0 where
  pub order : a ≤ b
  pub starts_hold : b ≤ length m.starts
  pub ends_as : length m.ends ≡ length m.starts
  pub values_as : length m.values ≡ length m.starts
  pub short : rank window.end - rank window.start < u32_limit
  pub meet : (k : ℕ) → a ≤ k → k < b → max (rank (get_or m.starts k (pos 0))) (rank window.start) < min (rank (get_or m.ends k (pos 0))) (rank window.end)

-- each ends by the start of the next
abbrev pub EachApart : Stored → ℕ → ℕ → Type 0
EachApart m a b = (k : ℕ) → a ≤ k → k + 1 < b → rank (get_or m.ends k (pos 0)) ≤ rank (get_or m.starts (k + 1) (pos 0))

-- none begins before the window
abbrev pub Inside : Stored → Bounds → ℕ → ℕ → Type 0
Inside m window a b = (k : ℕ) → a ≤ k → k < b → rank window.start ≤ rank (get_or m.starts k (pos 0))

-- TABLES: one of no seconds
abbrev pub no_seconds : List ℕ
no_seconds = replicate table_length 0

-- one with n seconds more of the status v
abbrev pub credited : List ℕ → ℕ → ℕ → List ℕ
credited t v n = set t v (get_or t v 0 + n)

-- a u32 holds each number of two tables as one
abbrev pub Both : List ℕ → List ℕ → Type 0
Both t u = (s : ℕ) → get_or t s 0 + get_or u s 0 < u32_limit

-- and the table r is that
abbrev pub Joined : List ℕ → List ℕ → List ℕ → Type 0
Joined t u r = (s : ℕ) → get_or r s 0 ≡ get_or t s 0 + get_or u s 0

-- the seconds of a status that these ranges have in a window
abbrev pub seconds_in : Bounds → ℕ → List Span → ℕ
seconds_in window s xs = seconds_of (equals s) (rank window.start) (rank window.end) xs

-- a u32 holds what a table has with those seconds
abbrev pub TableRoom : Bounds → List Span → List ℕ → Type 0
TableRoom window xs t = (s : ℕ) → get_or t s 0 + seconds_in window s xs < u32_limit

-- and the table r has that
abbrev pub Added : Bounds → List Span → List ℕ → List ℕ → Type 0
Added window xs t r = (s : ℕ) → get_or r s 0 ≡ get_or t s 0 + seconds_in window s xs
