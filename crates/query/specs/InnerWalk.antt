-- A walk along the instants of two maps: where it stands in both, and how far what the table says there goes on.
use Rattle.std.specs.Prelude.{ℕ, ◌+◌, ◌≤◌, ◌<◌, ◌≡◌, Bool, false, not, List, ℤ}
use Rattle.span.specs.Span.{Span, at}
use Rattle.key.specs.Rank.{rank}
use Rattle.outcomes.specs.Lent.{of_ref}
use Rattle.query_text.specs.InnerClasses.{class_of}
use Rattle.query_text.specs.InnerTable.{is_one, says}
use Rattle.query_text.specs.declared.truth.Truth.{Truth}
use Rattle.query.specs.InnerColumns.{spans_of}
use Rattle.query.specs.InnerSeen.{Trails}
use Rattle.query.specs.declared.walk.Walk.{Walk}
use Rattle.query.specs.declared.inquiry.Inquiry.{Inquiry}
use Rattle.query.specs.declared.walk.Cell.{Cell}

-- what a table says of what two maps hold at k
abbrev pub says_at : Truth → List Span → List Span → ℕ → Bool
says_at t xs ys k = says t (class_of (at xs k)) (class_of (at ys k))

-- 11 bits of a word from bit i on are 0
abbrev pub NoBits : ℕ → ℕ → Type 0
NoBits x i = (m : ℕ) → m ≤ 10 → is_one x (i + m) ≡ false

-- a table says no of a class of the first map, whatever the second holds
abbrev pub Silent : Truth → ℕ → Type 0
Silent t n = (m : ℕ) → m ≤ 10 → says t n m ≡ false

-- a walk stands in two maps: its places trail its key
pub record Stands (xs ys : List Span) (w : Walk) : Type 0 where
  pub a : Trails xs w.a (rank w.key)
  pub b : Trails ys w.b (rank w.key)

-- the ranges of the first map and of the second
abbrev pub firsts : Inquiry → List Span
firsts q = spans_of (of_ref q.a)

abbrev pub seconds : Inquiry → List Span
seconds q = spans_of (of_ref q.b)

-- a walk begins at a key: it stands in any two maps, so no place is passed
abbrev pub Begins : ℤ → Walk → Type 0
Begins key w = (w.key ≡ key) × ((xs ys : List Span) → Stands xs ys w)

-- from p up to where the next walk stands the table says one thing
pub record Cells (t : Truth) (xs ys : List Span) (p e : ℕ) (c : Cell) : Type 0 where
  pub on : p < rank c.next.key
  pub within : rank c.next.key ≤ e
  pub same : (k : ℕ) → p ≤ k → k < rank c.next.key → says_at t xs ys k ≡ c.yes
  pub stands : Stands xs ys c.next

-- the walk r stands at the first instant from p on, before e, where the table says so, and at e where there is none
pub record Edges (t : Truth) (xs ys : List Span) (p e : ℕ) (so : Bool) (r : Walk) : Type 0 where
  pub on : p ≤ rank r.key
  pub within : rank r.key ≤ e
  pub before_it : (k : ℕ) → p ≤ k → k < rank r.key → says_at t xs ys k ≡ not so
  pub there : rank r.key < e → says_at t xs ys (rank r.key) ≡ so
  pub stands : Stands xs ys r
