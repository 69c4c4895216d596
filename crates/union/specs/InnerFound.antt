-- What the walk finds from two places on, in two sets.
use Rattle.std.specs.Prelude.{ℕ, ◌+◌, ◌≤◌, ◌<◌, ◌≡◌, true, false, not, List, get_or, pos}
use mir.Val.{bool_byte}
use Rattle.span.specs.Span.{Span, span, Ordered}
use Rattle.span.specs.Operations.{absorb, united}
use Rattle.key.specs.Rank.{rank}
use Rattle.key.specs.Range.{kind_of}
use Rattle.key.specs.declared.RangeKind.{RangeKind}
use Rattle.outcomes.specs.declared.Stored.{Stored}
use Rattle.two_sets.specs.InnerSides.{rows, rows_from}
use Rattle.two_sets.specs.InnerKind.{wide}
use Rattle.two_sets.specs.declared.Position.{Position}
use Rattle.union.specs.declared.walk.Taken.{Taken}

-- the union of the two sets
abbrev pub either : RangeKind → Stored → Stored → List Span
either kind a b = united (rows (kind_of kind) a) (rows (kind_of kind) b)

-- what is still to be written where a range of the ranks from s to e is open: it, laid into the union from place i of the first set
-- and place j of the second on
abbrev pub open_from : RangeKind → ℕ → ℕ → Stored → ℕ → Stored → ℕ → List Span
open_from kind s e a i b j = absorb (span s (wide kind + e) 0) (united (rows_from (kind_of kind) a i) (rows_from (kind_of kind) b j))

-- such a range may be open there: it has a key, and no range from there on starts before it
pub record Opened (kind : RangeKind) (s e : ℕ) (a : Stored) (i : ℕ) (b : Stored) (j : ℕ) : Type 0 where
  pub in_a : i ≤ a.count
  pub in_b : j ≤ b.count
  pub full : s < wide kind + e
  pub after_a : Ordered s (rows_from (kind_of kind) a i)
  pub after_b : Ordered s (rows_from (kind_of kind) b j)

-- both, where the walk is
abbrev pub open_at : RangeKind → Stored → Stored → Position → List Span
open_at kind a b r = open_from kind (rank r.start) (rank r.end) a r.i b r.j

abbrev pub OpenedAt : RangeKind → Stored → Stored → Position → Type 0
OpenedAt kind a b r = Opened kind (rank r.start) (rank r.end) a r.i b r.j

-- the range at place k of a set is taken, where the other set is at place l: it starts no later than the range there
pub record Takes (m : Stored) (k : ℕ) (o : Stored) (l : ℕ) (r : Taken) : Type 0 where
  pub there : k < m.count
  pub start : rank r.start ≡ rank (get_or m.starts k (pos 0))
  pub end : rank r.end ≡ rank (get_or m.ends k (pos 0))
  pub first : l < o.count → rank (get_or m.starts k (pos 0)) ≤ rank (get_or o.starts l (pos 0))

-- it is taken from the left set, or from the right one; of two that start together the right one is taken
pub record TakesNext (a : Stored) (i : ℕ) (b : Stored) (j : ℕ) (r : Taken) : Type 0 where
  pub lefts : r.left ≡ true → Takes a i b j r
  pub rights : r.left ≡ false → Takes b j a i r
  pub sooner : r.left ≡ true → j < b.count → rank (get_or a.starts i (pos 0)) < rank (get_or b.starts j (pos 0))

-- the walk is there once the first range is taken: that is open, its set is at the next place, nothing is written, and the whole union is still to be
pub record First (kind : RangeKind) (a b : Stored) (r : Position) : Type 0 where
  pub taken : Taken
  pub next : TakesNext a 0 b 0 taken
  pub in_left : r.i ≡ bool_byte taken.left
  pub in_right : r.j ≡ bool_byte (not taken.left)
  pub start : rank r.start ≡ rank taken.start
  pub end : rank r.end ≡ rank taken.end
  pub none_yet : r.at ≡ 0
  pub all : either kind a b ≡ open_at kind a b r
  pub opened : OpenedAt kind a b r
