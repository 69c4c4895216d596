-- Document 01, Domain: what a map stores, the ranges that it holds, and when it is well formed. `kind` is `half_open` or `inclusive`.
use Rattle.std.specs.Prelude.{ℕ, ◌-◌, ◌≤◌, ◌≡◌, Bool, true, false, ◌&&◌, List, [], ◌∷◌, ◌++◌, map, eqb, leb, length, get_or, take, drop, replicate, ℤ, pos, negsuc}
use Rattle.std.specs.Int.{w64}
use Rattle.std.proofs.Common.{SFits}
use Rattle.span.specs.Span.{Span, tidy}
use Rattle.key.specs.Rank.{key_at}
use Rattle.key.specs.Range.{Kind, span_of}
use Rattle.outcomes.specs.declared.Stored.{Stored}

-- how many places a map has. `places_of` ties it to the constant of the code
abbrev pub places : ℕ
places = 512

-- A MAP is the struct `Stored` of the code: how many ranges it holds, and the starts, ends and values of its places
abbrev pub stored : ℕ → List ℤ → List ℤ → List ℕ → Stored
stored n ss es vs = record { count = n; starts = ss; ends = es; values = vs }

-- the ranges of three lists, place by place, as spans
unfoldable pub spans : Kind → List ℤ → List ℤ → List ℕ → List Span
spans kind [] es vs = []
spans kind (s ∷ ss) [] vs = []
spans kind (s ∷ ss) (e ∷ es) [] = []
spans kind (s ∷ ss) (e ∷ es) (v ∷ vs) = span_of kind s e v ∷ spans kind ss es vs

-- the ranges that a map holds: those of its first `count` places
unfoldable pub ranges : Kind → Stored → List Span
ranges kind m = take m.count (spans kind m.starts m.ends m.values)

-- the first start, the first end and the first value are of the first range, and so on; unused places hold start 0, end 0, value 0
unfoldable pub filled : {A : Type 0} → ℕ → A → List A → List A
filled n zero l = l ++ replicate (n - length l) zero

-- the map of n places that holds these ranges
unfoldable pub storing : Kind → ℕ → List Span → Stored
storing kind n xs = record {
  count = length xs;
  starts = filled n (pos 0) (map (λ (x : Span). key_at x.lo) xs);
  ends = filled n (pos 0) (map (λ (x : Span). kind.ending x.hi) xs);
  values = filled n 0 (map (λ (x : Span). x.label) xs);
}

-- are all of these 0
abbrev pub is_zero : ℤ → Bool
is_zero (pos n) = eqb n 0
is_zero (negsuc n) = false

unfoldable pub zeros : List ℤ → Bool
zeros [] = true
zeros (z ∷ zs) = is_zero z && zeros zs

unfoldable pub noughts : List ℕ → Bool
noughts [] = true
noughts (n ∷ ns) = eqb n 0 && noughts ns

-- do the places from the count on hold start 0, end 0, value 0
unfoldable pub unused : Stored → Bool
unused m = zeros (drop m.count m.starts) && (zeros (drop m.count m.ends) && noughts (drop m.count m.values))

-- WELL FORMED, of a map of n places: the count is at most n; the ranges ascend without overlap, none is empty or reversed,
-- and no two that touch have equal values (`tidy`); unused places hold 0
unfoldable pub well_formed : Kind → ℕ → Stored → Bool
well_formed kind n m = leb m.count n && (tidy 0 (ranges kind m) && unused m)

-- from place n on, a list holds z
abbrev pub Spare : {A : Type 0} → List A → ℕ → A → Type 0
Spare l n z = (k : ℕ) → n ≤ k → get_or l k z ≡ z

-- all of a list are i64, as what an array in memory holds
abbrev pub AllFit : List ℤ → Type 0
AllFit l = (k : ℕ) → SFits w64 (get_or l k (pos 0))

-- what an unchecked door requires of the map that it is lent: its columns are of one length, its keys are i64, and it is well formed. The check finds that out
pub record Sound (kind : Kind) (m : Stored) : Type 0 where
  pub ends_as : length m.ends ≡ length m.starts
  pub values_as : length m.values ≡ length m.starts
  pub starts_fit : AllFit m.starts
  pub ends_fit : AllFit m.ends
  pub well : well_formed kind (length m.starts) m ≡ true
