-- The sets that the doors are lent: the ranges of a set are those of its starts and ends.
use Prim.Native.Nat.{ℕ}
use mathlib.Core.Path.{◌≡◌, refl, ap, ◌∙◌}
use mathlib.Core.Bool.{true}
use mathlib.Core.List.{List, [], ◌∷◌}
use borrow.Author.Tests.{eqb-true}
use lib.Dec.{eqb}
use lib.ListN.{length, replicate}
use Rattle.span.proofs.Tests.{both}
use Rattle.key.specs.Range.{Kind}
use Rattle.outcomes.specs.Stored.{ranges, noughts}
use Rattle.outcomes.specs.declared.Stored.{Stored}
use Rattle.outcomes.specs.Sets.{plain, SoundSet}
use Rattle.outcomes.proofs.Formed.{good}
use Rattle.range_list.specs.InnerColumns.{column_rows}
use Rattle.two_sets.specs.InnerSides.{Side, rows}

-- the values of a set are known
noughts_are : (vs : List ℕ) → noughts vs ≡ true → vs ≡ replicate (length vs) 0
unfolding noughts
noughts_are [] e = refl
noughts_are (v ∷ vs) e = let (a, b) = both (eqb v 0) (noughts vs) e in rw (eqb-true v 0 a, ← noughts_are vs b)

module _ (kind : Kind) {m : Stored} (set : SoundSet kind m) where
  -- so its ranges are those of its columns of starts and ends
  pub rows_are : rows kind m ≡ ranges kind m
  unfolding column_rows ranges plain
  rows_are =
      let v : m.values ≡ replicate (length m.starts) 0 = noughts_are m.values set.plain_too ∙ ap (λ (n : ℕ). replicate n 0) set.sound.values_as in
      rw (← v)

  pub side : Side kind m
  side = record { held = (good set.sound).held; ends_as = set.sound.ends_as; tidy = rw rows_are (good set.sound).tidy }
