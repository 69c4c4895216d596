-- Rust's BTreeMap<RangeStartWrapper<K>, V>, as rangemap 1.8.0 uses it: the entries, ascending by start.
-- An entry is a span: its key is the range lo..hi, and its value the label. Keys are compared by their starts alone (range_wrapper.rs, 48-77).
-- A definition answers none where the Rust panics.
use Rattle.std.specs.Prelude.{ℕ, zero, suc, List, [], ◌∷◌, ◌++◌, Bool, true, false, ◌&&◌, cond, ltb, leb, eqb}
use Rattle.std.proofs.Math.Option.{Option, some, none}
use Rattle.span.specs.Span.{Span, span}

-- what may panic, and what comes after it
abbrev pub rust_then : {A B : Type 0} → Option A → (A → Option B) → Option B
rust_then none f = none
rust_then (some a) f = f a

-- if let Some(x) = .. { .. } else { .. }
abbrev pub if_let : {A : Type 0} → Option Span → (Span → A) → A → A
if_let none f a = a
if_let (some x) f a = f x

-- Option::is_some
abbrev pub is_some : Option Span → Bool
is_some x = if_let x (λ y. true) false

-- Iterator::filter
unfoldable pub filtered : (Span → Bool) → List Span → List Span
filtered p [] = []
filtered p (x ∷ xs) = let rest = filtered p xs in cond (p x) (x ∷ rest) rest

-- Iterator::filter, by a test that may panic, of a list of which every entry is asked for
unfoldable pub filtered_by : (Span → Option Bool) → List Span → Option (List Span)
filtered_by p [] = some []
filtered_by p (x ∷ xs) = rust_then (p x) (λ t. rust_then (filtered_by p xs) (λ rest. some (cond t (x ∷ rest) rest)))

-- what an iterator gives until its first None, where it gives None for the first entry that fails the test
unfoldable pub taken_while : (Span → Bool) → List Span → List Span
taken_while p [] = []
taken_while p (x ∷ xs) = let rest = taken_while p xs in cond (p x) (x ∷ rest) []

-- Iterator::rev
unfoldable pub reversed : List Span → List Span
reversed [] = []
reversed (x ∷ xs) = reversed xs ++ x ∷ []

-- Iterator::take
unfoldable pub taken : ℕ → List Span → List Span
taken zero xs = []
taken (suc n) [] = []
taken (suc n) (x ∷ xs) = x ∷ taken n xs

-- Iterator::next, and BTreeMap::first_key_value
abbrev pub next : List Span → Option Span
next [] = none
next (x ∷ xs) = some x

-- Iterator::next_back, and BTreeMap::last_key_value
unfoldable pub next_back : List Span → Option Span
next_back m = next (reversed m)

-- Iterator::nth: the entry at a place, if there is one
unfoldable pub nth : ℕ → List Span → Option Span
nth i [] = none
nth zero (x ∷ xs) = some x
nth (suc i) (x ∷ xs) = nth i xs

-- BTreeMap::range((Unbounded, Included(s)))
unfoldable pub up_to : ℕ → List Span → List Span
up_to s m = filtered (λ x. leb x.lo s) m

-- BTreeMap::range((Included(s), Included(e))), where s ≤ e
unfoldable pub from_to : ℕ → ℕ → List Span → List Span
from_to s e m = filtered (λ x. leb s x.lo && leb x.lo e) m

-- BTreeMap::range((Excluded(s), Excluded(e))), where s < e
unfoldable pub strictly_between : ℕ → ℕ → List Span → List Span
strictly_between s e m = filtered (λ x. ltb s x.lo && ltb x.lo e) m

-- BTreeMap::range((Included(s), Unbounded))
unfoldable pub starting : ℕ → List Span → List Span
starting s m = filtered (λ x. leb s x.lo) m

-- BTreeMap::range((Excluded(s), Included(e))), where s ≤ e
unfoldable pub starting_by : ℕ → ℕ → List Span → List Span
starting_by s e m = filtered (λ x. ltb s x.lo && leb x.lo e) m

-- BTreeMap::remove
unfoldable pub deleted : ℕ → List Span → List Span
deleted s [] = []
deleted s (x ∷ xs) = let rest = deleted s xs in cond (eqb x.lo s) xs (x ∷ rest)

-- BTreeMap::insert. Where an entry with an equal key is there, its value changes and its key stays, and so its end
unfoldable pub entered : Span → List Span → List Span
entered x [] = x ∷ []
entered x (y ∷ ys) = let rest = entered x ys in
    cond (ltb x.lo y.lo) (x ∷ y ∷ ys) (cond (eqb x.lo y.lo) (span y.lo y.hi x.label ∷ ys) (y ∷ rest))
