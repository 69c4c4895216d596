-- Every map over three neighbouring keys, with the values 1 and 2, and every edit and question of it with keys there; every two sets over them, and
-- every two ranges. The answers are told as numbers. `o` is the rank of the first of the keys, so that the same is asked at both ends of i64.
-- rust/src/transcription.rs asks rangemap the same, and prints the table that the transcription is held to.
use Prim.Native.Nat.{ℕ, zero, suc, ◌+◌, ◌-◌, ◌*◌, ◌^◌, Ordering}
use Rattle.std.specs.Prelude.{Bool, cond, List, [], ◌∷◌, ◌++◌, map}
use Rattle.std.proofs.Math.Option.{Option, some, none}
use Rattle.span.specs.Span.{Span, span, joined}
use Rattle.rust_algorithm.specs.Answers.{Functions, half_open_rust, inclusive_rust}
use Rattle.rust_algorithm.specs.InclusiveMap.{add_one_checked, sub_one_checked}

-- ranges as a number, nine bits for each, with keys counted from o: 1 is no range
unfoldable pub code : ℕ → List Span → ℕ
code o [] = 1
code o (x ∷ xs) = code o xs * 512 + ((x.lo - o) * 64 + (x.hi - o) * 8 + x.label)

-- the same of what may panic: 0 is a panic
abbrev pub answer_code : ℕ → Option (List Span) → ℕ
answer_code o none = 0
answer_code o (some xs) = code o xs

-- the same of one range, if there is one
abbrev pub entry_code : ℕ → Option Span → ℕ
entry_code o none = 1
entry_code o (some x) = code o (x ∷ [])

-- an order as 0, 1 or 2, and as 4 more where the two are equal
abbrev pub order_code : Ordering → ℕ
order_code Ordering.lt = 0
order_code Ordering.eq = 1
order_code Ordering.gt = 2

unfoldable pub equal_code : Bool → Ordering → ℕ
equal_code b o = cond b 4 0 + order_code o

-- whether two ranges touch, 0 for a panic; and 4 more where they overlap
abbrev pub touch_code : Option Bool → ℕ
touch_code none = 0
touch_code (some b) = cond b 2 1

unfoldable pub relation_code : Option Bool → Bool → ℕ
relation_code t b = touch_code t + cond b 4 0

-- numbers below a base as one number
unfoldable pub packed : ℕ → List ℕ → ℕ
packed base [] = 0
packed base (n ∷ ns) = packed base ns * base + n

-- a question of each two keys of a list; the answers are of at most 28 bits
unfoldable pub of_pairs : List ℕ → List ℕ → (ℕ → ℕ → ℕ) → List ℕ
of_pairs [] es f = []
of_pairs (s ∷ ss) es f = map (f s) es ++ of_pairs ss es f

-- a key with a value, or with none where the value is 0
unfoldable pub key_with : ℕ → ℕ → List Span → List Span
key_with k zero xs = xs
key_with k (suc v) xs = span k (k + 1) (suc v) ∷ xs

-- the map with these values at the three keys
unfoldable pub small_map : ℕ → ℕ → ℕ → ℕ → List Span
small_map o a b c = joined (key_with o a (key_with (o + 1) b (key_with (o + 2) c [])))

-- all that have these values at the first two keys; all of them
unfoldable pub of_two : ℕ → ℕ → ℕ → List (List Span)
of_two o a b = small_map o a b 0 ∷ small_map o a b 1 ∷ small_map o a b 2 ∷ []

unfoldable pub small_maps : ℕ → List (List Span)
small_maps o =
    (of_two o 0 0 ++ (of_two o 0 1 ++ of_two o 0 2))
    ++ ((of_two o 1 0 ++ (of_two o 1 1 ++ of_two o 1 2)) ++ (of_two o 2 0 ++ (of_two o 2 1 ++ of_two o 2 2)))

-- the ranges of a set have the label 0
unfoldable pub plainly : List Span → List Span
plainly [] = []
plainly (x ∷ xs) = span x.lo x.hi 0 ∷ plainly xs

-- all sets over the three keys
unfoldable pub sets_of : ℕ → ℕ → ℕ → List (List Span)
sets_of o a b = plainly (small_map o a b 0) ∷ plainly (small_map o a b 1) ∷ []

unfoldable pub sets : ℕ → List (List Span)
sets o = (sets_of o 0 0 ++ sets_of o 0 1) ++ (sets_of o 1 0 ++ sets_of o 1 1)

-- the Rust's functions, the ranks that are asked, and the ranks just past an end
module _ (rust : Functions) (o : ℕ) (starts ends : List ℕ) where
  -- of a range: contains of each key, overlaps and touches, and intersect, with each other range, valid or not
  unfoldable pub range_row : ℕ → ℕ → List ℕ
  range_row s e =
      packed 2 (map (λ k. cond (rust.range_contains s e k) 1 0) starts)
      ∷ packed 8 (of_pairs starts ends (λ c d. relation_code (rust.range_touches s e c d) (rust.range_overlaps s e c d)))
      ∷ packed (2 ^ 28) (of_pairs starts ends (λ c d. entry_code o (rust.range_intersect (span s e 0) (span c d 0))))
      ∷ []

  unfoldable pub ranges_from : ℕ → List ℕ → List ℕ
  ranges_from s [] = []
  ranges_from s (e ∷ es) = range_row s e ++ ranges_from s es

  unfoldable pub range_rows : List ℕ → List ℕ
  range_rows [] = []
  range_rows (s ∷ ss) = ranges_from s ends ++ range_rows ss

  -- of a map: what it holds; remove, insert of 1, insert of 2, overlapping and gaps with each two keys, valid or not; get of each key
  unfoldable pub map_row : List Span → List ℕ
  map_row m =
      code o m
      ∷ packed (2 ^ 28) (of_pairs starts ends (λ s e. answer_code o (rust.edit s e none m)))
      ∷ packed (2 ^ 28) (of_pairs starts ends (λ s e. answer_code o (rust.edit s e (some 1) m)))
      ∷ packed (2 ^ 28) (of_pairs starts ends (λ s e. answer_code o (rust.edit s e (some 2) m)))
      ∷ packed (2 ^ 28) (of_pairs starts ends (λ s e. code o (rust.overlapping s e m)))
      ∷ packed (2 ^ 28) (of_pairs starts ends (λ s e. answer_code o (rust.gaps s e m)))
      ∷ packed (2 ^ 28) (map (λ k. entry_code o (rust.get_key_value k m)) starts)
      ∷ packed 8 (map (λ n. equal_code (rust.eq m n) (rust.cmp m n)) (small_maps o))
      ∷ []

  unfoldable pub map_rows : List (List Span) → List ℕ
  map_rows [] = []
  map_rows (m ∷ ms) = map_row m ++ map_rows ms

  -- of two sets: union, intersection, and what the operators for them collect
  unfoldable pub set_pair : List Span → List Span → ℕ
  set_pair a b = packed (2 ^ 28) (answer_code o (rust.union a b) ∷ answer_code o (rust.intersection a b) ∷ answer_code o
      (rust.bit_or a b) ∷ answer_code o (rust.bit_and a b) ∷ [])

  unfoldable pub set_pairs : List (List Span) → List (List Span) → List ℕ
  set_pairs [] bs = []
  set_pairs (a ∷ rest) bs = map (set_pair a) bs ++ set_pairs rest bs

  -- all answers
  unfoldable pub table : List ℕ
  table = range_rows starts ++ (map_rows (small_maps o) ++ set_pairs (sets o) (sets o))

-- a half-open range ends at one of four keys, an inclusive one one past one of three
unfoldable pub half_open_table : ℕ → List ℕ
half_open_table o = let keys : List ℕ = o ∷ (o + 1) ∷ (o + 2) ∷ (o + 3) ∷ [] in table half_open_rust o keys keys

unfoldable pub inclusive_table : ℕ → List ℕ
inclusive_table o = table (inclusive_rust add_one_checked sub_one_checked) o (o ∷ (o + 1) ∷ (o + 2) ∷ []) ((o + 1) ∷ (o + 2) ∷ (o + 3) ∷ [])
