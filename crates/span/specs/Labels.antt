-- Spans with other labels: each label becomes another, or its span goes. To keep the spans of some labels is to give the others none.
use Rattle.std.specs.Prelude.{ℕ, Bool, cond, List, [], ◌∷◌, eqb}
use Rattle.std.proofs.Math.Option.{Option, some, none}
use Rattle.span.specs.Span.{Span, piece, Edit}

-- each label v becomes f v; a span whose label becomes none goes
unfoldable pub relabelled : (ℕ → Option ℕ) → List Span → List Span
relabelled f [] = []
relabelled f (x ∷ xs) = piece x.lo x.hi (f x.label) (relabelled f xs)

-- what f makes of what is held at an instant
abbrev pub through : (ℕ → Option ℕ) → Option ℕ → Option ℕ
through f none = none
through f (some v) = f v

-- TESTS OF LABELS: is it v
abbrev pub equals : ℕ → ℕ → Bool
equals v u = eqb u v

-- a label that passes a test, as it is
abbrev pub passed : (ℕ → Bool) → ℕ → Option ℕ
passed p v = cond (p v) (some v) none

-- a label that passes a test, as 0, which is the label of a set
abbrev pub member : (ℕ → Bool) → ℕ → Option ℕ
member p v = cond (p v) (some 0) none

-- the spans whose label passes a test
abbrev pub those : (ℕ → Bool) → List Span → List Span
those p m = relabelled (passed p) m

-- EDITS with other labels: one that would give a label that becomes none removes
unfoldable pub relabelled_edits : (ℕ → Option ℕ) → List Edit → List Edit
relabelled_edits f [] = []
relabelled_edits f (e ∷ es) = record { lo = e.lo; hi = e.hi; new = through f e.new } ∷ relabelled_edits f es
