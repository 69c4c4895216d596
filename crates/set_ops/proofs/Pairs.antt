-- The entries of two lent lists, place by place.
use Prim.Native.Nat.{ℕ, zero, suc, ◌<◌, min}
use native.Mathlib.Omega.{arith}
use mathlib.Core.Path.{◌≡◌, refl}
use mathlib.Core.List.{List, [], ◌∷◌}
use lib.ListN.{length, get_or}
use lib.IntN.{ℤ, pos}
use Rattle.key.specs.declared.Entry.{Entry}
use Rattle.outcomes.specs.Sets.{pairs}

abbrev entry : ℤ → ℤ → Entry
entry s e = record { start = s; end = e; value = 0 }

pub length_pairs : (ss es : List ℤ) → length (pairs ss es) ≡ min (length ss) (length es)
unfolding pairs
length_pairs [] es = omega arith
length_pairs (s ∷ ss) [] = omega arith
length_pairs (s ∷ ss) (e ∷ es) = omega (arith, length_pairs ss es)

-- the entry at a place of two lists
abbrev pub pair_at : List ℤ → List ℤ → ℕ → Entry
pair_at ss es k = entry (get_or ss k (pos 0)) (get_or es k (pos 0))

pub get_or_pairs : (ss es : List ℤ) (k : ℕ) → k < length (pairs ss es) → get_or (pairs ss es) k (entry (pos 0) (pos 0)) ≡ pair_at ss es k
unfolding pairs
get_or_pairs [] es k h = absurd (omega arith)
get_or_pairs (s ∷ ss) [] k h = absurd (omega arith)
get_or_pairs (s ∷ ss) (e ∷ es) zero h = refl
get_or_pairs (s ∷ ss) (e ∷ es) (suc k) h = get_or_pairs ss es k (omega arith)
