-- A plan says which places a change replaces, and by what. These definitions serve the proofs of insert and remove; what those promise is in `outcomes`.
use Rattle.std.specs.Prelude.{ℕ, ◌-◌, ◌≤◌, ◌<◌, ◌≡◌, Bool, true, false, cond, List, [], ◌∷◌, ◌++◌, ltb, length, get_or, take, drop, ℤ, pos, Some, None}
use Rattle.std.proofs.Math.Option.{Option, some, none}
use Rattle.std.specs.Int.{w64}
use Rattle.std.proofs.Common.{SFits}
use Rattle.answers.specs.Answers.{done, too_many}
use Rattle.span.specs.Span.{Span, span, given}
use Rattle.key.specs.Rank.{rank, keys}
use Rattle.key.specs.Range.{Kind}
use Rattle.splice.specs.InnerSplice.{spliced}
use Rattle.splice.specs.InnerReplace.{new_starts, new_ends, new_values, new_count, Apt, Columns}
use Rattle.key.specs.declared.Entry.{Entry}
use Rattle.std.specs.declared.option.Option.{Option as Maybe}
use Rattle.outcomes.specs.Answered.{entry}
use Rattle.splice.specs.declared.Replacement.{Replacement}
use Rattle.outcomes.specs.Stored.{stored, spans, ranges, Spare, AllFit}
use Rattle.outcomes.specs.declared.Stored.{Stored}
use Rattle.outcomes.specs.Outcomes.{Edited, leaving}
use Rattle.edit.specs.declared.Change.{Change}
use Rattle.edit.specs.declared.Met.{Met}

-- A CHANGE

-- the value that it has in the code
abbrev pub New : Type 0
New = Maybe ℕ

-- its range has a key: it is neither empty nor reversed
abbrev pub HasKey : Kind → Change → Type 0
HasKey kind change = rank change.start < kind.past change.end

-- a value that comes, or none
abbrev pub value_if : New → Option ℕ
value_if (Some v) = some v
value_if None = none

-- what a change gives: a value, or none
abbrev pub asked : Change → Option ℕ
asked change = value_if change.new

-- it is the value that a range has
abbrev pub Same : ℕ → Option ℕ → Type 0
Same p (some v) = p ≡ v
Same p none = ⊥

-- THE PLACES

-- what stands at no place
abbrev pub nowhere : Span
nowhere = span 0 0 0

-- the places from `from` up to `to` are those that meet or touch the instants from lo up to hi
pub record Touching (xs : List Span) (lo hi from to : ℕ) : Type 0 where
  pub ascending : from ≤ to
  pub within : to ≤ length xs
  pub before : (k : ℕ) → k < from → (get_or xs k nowhere).hi < lo
  pub reach : (k : ℕ) → from ≤ k → k < length xs → lo ≤ (get_or xs k nowhere).hi
  pub begun : (k : ℕ) → k < to → (get_or xs k nowhere).lo ≤ hi
  pub after : (k : ℕ) → to ≤ k → k < length xs → hi < (get_or xs k nowhere).lo

-- the least end of a range that touches one from a start on; where a key lies before the start, a range that ends so goes up to the start
pub record LeastEnd (kind : Kind) (start least : ℤ) : Type 0 where
  pub short : (e : ℤ) → rank e < rank least → kind.past e < rank start
  pub reaches : (e : ℤ) → rank least ≤ rank e → rank start ≤ kind.past e
  pub cuts : 0 < rank start → kind.past least ≡ rank start
  pub fits : SFits w64 least

-- the greatest start of a range that touches one up to an end; where a key comes after the end, a range that starts so begins there
pub record GreatestStart (kind : Kind) (end greatest : ℤ) : Type 0 where
  pub begins : (s : ℤ) → rank s ≤ rank greatest → rank s ≤ kind.past end
  pub off : (s : ℤ) → rank greatest < rank s → kind.past end < rank s
  pub cuts : kind.past end < keys → rank greatest ≡ kind.past end
  pub fits : SFits w64 greatest

-- the places that a change meets or touches, and the keys at which old ranges are cut
pub record Meets (kind : Kind) (m : Stored) (change : Change) (met : Met) : Type 0 where
  pub touching : Touching (ranges kind m) (rank change.start) (kind.past change.end) met.from met.to
  pub below_fits : SFits w64 met.below
  pub above_fits : SFits w64 met.above
  pub cuts_below : 0 < rank change.start → kind.past met.below ≡ rank change.start
  pub cuts_above : kind.past change.end < keys → rank met.above ≡ kind.past change.end

-- THE PLAN

-- what becomes of an old range of the value p on a side of a change: is what is beyond it kept, and with which key does the new range start or end
pub data Beside (Beyond : Type 0) (p : ℕ) (new : Option ℕ) (own far : ℤ) : Bool → ℤ → Type 0 where
  b_clear : (Beyond → ⊥) → Beside Beyond p new own far false own
  b_joined : Beyond → Same p new → Beside Beyond p new own far false far
  b_kept : Beyond → (Same p new → ⊥) → Beside Beyond p new own far true own

-- an entry put in front, if it is kept
abbrev pub kept : Bool → Entry → List Entry → List Entry
kept true x xs = x ∷ xs
kept false x xs = xs

-- the same of an entry that there is, or not
abbrev pub in_front : Maybe Entry → List Entry → List Entry
in_front (Some x) xs = x ∷ xs
in_front None xs = xs

-- the range that comes, if a value does
abbrev pub placed : ℤ → ℤ → New → Maybe Entry
placed s e (Some v) = Some (entry s e v)
placed s e None = None

-- the entries that come
abbrev pub coming : Replacement → List Entry
coming p = take p.n (p.x ∷ p.y ∷ p.z ∷ [])

-- the entries past those that come are 0
abbrev pub Blank : Replacement → Type 0
Blank p = Spare (p.x ∷ p.y ∷ p.z ∷ []) p.n (entry (pos 0) (pos 0) 0)

-- a plan for the places from i up to j, by which these entries come, n at most
pub record Brings (p : Replacement) (i j n : ℕ) (xs : List Entry) : Type 0 where
  pub from_is : p.from ≡ i
  pub to_is : p.to ≡ j
  pub few : p.n ≤ n
  pub are : coming p ≡ xs
  pub blank : Blank p

-- a plan over places that are met: the new range comes, or none, between what is kept of the first and of the last
pub record Overlaid (starts ends : List ℤ) (values : List ℕ) (met : Met) (change : Change) (p : Replacement) : Type 0 where
  pub left_kept : Bool
  pub right_kept : Bool
  pub start : ℤ
  pub end : ℤ
  pub left : Beside (rank (get_or starts met.from (pos 0)) < rank change.start) (get_or values met.from 0) (asked change)
      change.start (get_or starts met.from (pos 0)) left_kept start
  pub right : Beside (rank change.end < rank (get_or ends (met.to - 1) (pos 0))) (get_or values (met.to - 1) 0) (asked change)
      change.end (get_or ends (met.to - 1) (pos 0)) right_kept end
  pub brings : Brings p met.from met.to 3
      (kept left_kept (entry (get_or starts met.from (pos 0)) met.below (get_or values met.from 0))
      (in_front (placed start end change.new)
      (kept right_kept (entry met.above (get_or ends (met.to - 1) (pos 0)) (get_or values (met.to - 1) 0)) [])))

-- carried out, the plan is the change
pub record Planned (kind : Kind) (m : Stored) (change : Change) (p : Replacement) : Type 0 where
  pub apt : Apt m.count p
  pub starts_fit : AllFit (new_starts p)
  pub ends_fit : AllFit (new_ends p)
  pub right : take p.from (ranges kind m) ++ (spans kind (new_starts p) (new_ends p) (new_values p) ++ drop p.to (ranges kind m))
      ≡ given (rank change.start) (kind.past change.end) (asked change) (ranges kind m)

-- CARRIED OUT

-- the columns of a map
abbrev pub ColumnsOf : Stored → Type 0
ColumnsOf m = Columns m.count m.starts m.ends m.values

-- the map in which the places are replaced, or 2 where it has too few
unfoldable pub carried : Stored → Replacement → Edited
carried m p =
    cond (ltb (length m.starts) (new_count m.count p)) (leaving too_many m)
    (leaving done (stored (new_count m.count p)
    (spliced m.starts p.from p.to m.count (new_starts p) (pos 0))
    (spliced m.ends p.from p.to m.count (new_ends p) (pos 0))
    (spliced m.values p.from p.to m.count (new_values p) 0)))
