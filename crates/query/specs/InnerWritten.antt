-- The true instants that are still to come: how many ranges they are, and how these are written.
use Rattle.std.specs.Prelude.{ℕ, ◌+◌, ◌≤◌, ◌<◌, ◌≡◌, Bool, true, false, ◌&&◌, cond, List, leb, ltb, length, set, ℤ}
use Rattle.std.proofs.Math.Option.{Option, none}
use Rattle.span.specs.Span.{Span, Means}
use Rattle.key.specs.Rank.{rank, key_at}
use Rattle.key.specs.Range.{half_open}
use Rattle.key.specs.InnerDecides.{Decides}
use Rattle.outcomes.specs.Stored.{ranges}
use Rattle.outcomes.specs.declared.Stored.{Stored}
use Rattle.range_list.specs.InnerLists.{ListRoom, Puts}
use Rattle.query_text.specs.declared.truth.Truth.{Truth}
use Rattle.query.specs.Result.{marked}
use Rattle.query.specs.InnerWalk.{says_at}

-- what is held at k: 0 where it is before e and the table says so
abbrev pub true_before : Truth → List Span → List Span → ℕ → ℕ → Option ℕ
true_before t xs ys e k = marked (ltb k e && says_at t xs ys k)

-- zs is the tidy list of the instants from p on, before e, where the table says so
abbrev pub ToCome : Truth → List Span → List Span → ℕ → ℕ → List Span → Type 0
ToCome t xs ys p e zs = Means zs (λ k. cond (leb p k) (true_before t xs ys e k) none)

-- n is how many spans that list has
pub record Counts (t : Truth) (xs ys : List Span) (p e n : ℕ) : Type 0 where
  pub room : n + p ≤ e
  pub many : (zs : List Span) → ToCome t xs ys p e zs → n ≡ length zs

-- two lent lists have room for that list from place n on
pub record HasRoom (t : Truth) (xs ys : List Span) (p e n : ℕ) (os oe : List ℤ) : Type 0 where
  pub list : List Span
  pub to_come : ToCome t xs ys p e list
  pub room : ListRoom n list os oe

-- that list is written from place n on, and r is the place behind it
pub record Writes (t : Truth) (xs ys : List Span) (p e n : ℕ) (os oe : List ℤ) (r : ℕ) (os₁ oe₁ : List ℤ) : Type 0 where
  pub upto : (zs : List Span) → ToCome t xs ys p e zs → r ≡ n + length zs
  pub puts : (zs : List Span) → ToCome t xs ys p e zs → Puts half_open n zs os oe os₁ oe₁

-- nothing is written, and r is the same place
abbrev pub Kept : ℕ → List ℤ → List ℤ → ℕ → List ℤ → List ℤ → Type 0
Kept n os oe r os₁ oe₁ = (r ≡ n) × (os₁ ≡ os) × (oe₁ ≡ oe)

-- the range from f up to g is written at place n, if there is one and it does not go on; r is the place for the next
pub record Shuts (on : Bool) (n f g : ℕ) (os oe : List ℤ) (r : ℕ) (os₁ oe₁ : List ℤ) : Type 0 where
  pub goes_on : on ≡ true → Kept n os oe r os₁ oe₁
  pub none_is : g ≤ f → Kept n os oe r os₁ oe₁
  pub ends : on ≡ false → f < g → (r ≡ n + 1) × (os₁ ≡ set os n (key_at f)) × (oe₁ ≡ set oe n (key_at g))

-- there is a list of what the table says in the window, and it has at most one span more than the maps together: the caller knows that
pub record Bounded (t : Truth) (a b : Stored) (s e : ℤ) : Type 0 where
  pub list : List Span
  pub to_come : ToCome t (ranges half_open a) (ranges half_open b) (rank s) (rank e) list
  pub few : length list ≤ a.count + b.count + 1

-- r says whether so many places are enough for that list
abbrev pub Measures : Truth → List Span → List Span → ℕ → ℕ → ℕ → Bool → Type 0
Measures t xs ys p e room r = (zs : List Span) → ToCome t xs ys p e zs → Decides r (length zs ≤ room)
