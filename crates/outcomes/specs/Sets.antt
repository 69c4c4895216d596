-- Document 01, modules 4 and 5: a set is a map whose values are all 0, and each function that a map has answers of a set as of the map (`if_set`).
-- Then what sets alone have: intersection and union of two, and the total of one. `kind` is `half_open` or `inclusive`. First what is answered of
-- well-formed sets (the unchecked doors of the code promise that), then the same of any: 4 if a set is not well formed or holds a value but 0,
-- then 9 if a total is over 2^64 - 1, then 3 if the lent output is too short.
use Rattle.std.specs.Prelude.{ℕ, ◌≡◌, Bool, true, ◌&&◌, cond, List, [], ◌∷◌, ltb, ℤ, Ok, Err}
use Rattle.answers.specs.declared.Refusal.{Refusal}
use Rattle.answers.specs.declared.Refusal.TheVariants.{NotFormed, TotalOver}
use Rattle.span.specs.Operations.{common, united, span_total}
use Rattle.key.specs.Rank.{keys}
use Rattle.key.specs.Range.{Kind}
use Rattle.outcomes.specs.Stored.{ranges, noughts, Sound}
use Rattle.outcomes.specs.declared.Stored.{Stored}
use Rattle.outcomes.specs.Outcomes.{not_written, Written, into_lists, formed}
use Rattle.key.specs.declared.Entry.{Entry}
use Rattle.outcomes.specs.Answered.{Totalled}

-- A SET: the values of all places are 0
unfoldable pub plain : Stored → Bool
plain m = noughts m.values

-- WHAT A FUNCTION OF A SET ANSWERS: what the map's does, and 4 where some value is not 0
abbrev pub if_set : {A : Type 0} → Stored → A → (Refusal → A) → A
if_set m answer refused = cond (plain m) answer (refused NotFormed)

-- the same of two sets
abbrev pub if_sets : {A : Type 0} → Stored → Stored → A → (Refusal → A) → A
if_sets a b answer refused = cond (plain a && plain b) answer (refused NotFormed)

-- the entries of two lent lists of ranges, for bulk insert: as many as the shorter has, each of value 0
unfoldable pub pairs : List ℤ → List ℤ → List Entry
pairs [] es = []
pairs (s ∷ ss) [] = []
pairs (s ∷ ss) (e ∷ es) = record { start = s; end = e; value = 0 } ∷ pairs ss es

-- what an unchecked door requires of the set that it is lent: a sound map whose values are all 0. The check finds that out
pub record SoundSet (kind : Kind) (m : Stored) : Type 0 where
  pub sound : Sound kind m
  pub plain_too : plain m ≡ true

-- a number of keys, where a u64 holds it, and else 9
unfoldable pub total_is : ℕ → Totalled
total_is n = cond (ltb n keys) (Ok n) (Err TotalOver)

module _ (kind : Kind) where
  -- OF WELL-FORMED SETS

  -- the common points as maximal ranges, ascending
  unfoldable pub intersection_sound : Stored → Stored → List ℤ → List ℤ → Written
  intersection_sound a b starts ends = into_lists kind (common (ranges kind a) (ranges kind b)) starts ends

  -- the points of either, ascending and disjoint, as document 01 has them: ranges that overlap become one, and ranges that only touch stay apart.
  -- Two theorems of proofs/Sets say what `united` is: `union_points` which points it has, `union_neighbours` which two neighbouring points lie in one range
  unfoldable pub union_sound : Stored → Stored → List ℤ → List ℤ → Written
  union_sound a b starts ends = into_lists kind (united (ranges kind a) (ranges kind b)) starts ends

  -- how many keys are covered
  unfoldable pub total_sound : Stored → Totalled
  total_sound m = total_is (span_total (ranges kind m))

  -- OF ANY SETS

  -- is a lent set as it must be
  abbrev pub formed_set : Stored → Bool
  formed_set m = formed kind m && plain m

  -- INTERSECTION
  unfoldable pub intersection : Stored → Stored → List ℤ → List ℤ → Written
  intersection a b starts ends = cond (formed_set a && formed_set b) (intersection_sound a b starts ends) (not_written NotFormed starts ends)

  -- UNION
  unfoldable pub union : Stored → Stored → List ℤ → List ℤ → Written
  union a b starts ends = cond (formed_set a && formed_set b) (union_sound a b starts ends) (not_written NotFormed starts ends)

  -- TOTAL
  unfoldable pub total_of : Stored → Totalled
  total_of m = cond (formed_set m) (total_sound m) (Err NotFormed)
