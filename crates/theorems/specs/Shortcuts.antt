-- NO SHORTCUT: what is said of the functions that edit a struct, for any struct and any edit.
use Rattle.std.specs.Prelude.{ℕ, ◌<◌, ◌≡◌, ℤ}
use Rattle.outcomes.specs.declared.Stored.{Stored}
use Rattle.key.specs.declared.Entry.{Entry}
use Rattle.theorems.specs.Inputs.{RangeInput}

-- an edit of a struct S by arguments A: the struct that it leaves, and its answer
abbrev pub Editor : Type 0 → Type 0 → Type 0
Editor S A = S → A → S × ℕ

module _ {S A : Type 0} (Input : S → A → Type 0) (Promise : A → S → S → ℕ → Type 0) where
  -- it meets a promise on all that a caller can give
  abbrev pub Keeps : Editor S A → Type 0
  Keeps f = (m : S) (a : A) → Input m a → Promise a m (f m a).0 (f m a).1

  -- NO SHORTCUT: an edit that meets the promise does not always answer one number, 2, 4, 5 or any other, and does not leave every struct as it was
  pub record NoShortcut : Type 0 where
    pub not_always : (f : Editor S A) → Keeps f → (n : ℕ) → ((m : S) (a : A) → Input m a → (f m a).1 ≡ n) → ⊥
    pub not_untouched : (f : Editor S A) → Keeps f → ((m : S) (a : A) → Input m a → (f m a).0 ≡ m) → ⊥

-- what a caller can give an insert: a range and its value
abbrev pub EntryInput : Stored → Entry → Type 0
EntryInput m a = RangeInput m a.start a.end × (a.value < 256)

-- and an edit that takes a range alone
abbrev pub BoundsInput : Stored → ℤ × ℤ → Type 0
BoundsInput m a = RangeInput m a.0 a.1
