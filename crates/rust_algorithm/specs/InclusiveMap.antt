-- RangeInclusiveMap of rangemap 1.8.0, after its file src/inclusive_map.rs, whose lines are cited. (MIT or Apache 2.0, by its authors.)
-- An entry whose key is the range s..=e is the span from s up to e + 1. add-one and sub-one are those of StepFns; nothing is said of them here,
-- and so nothing of what they do where the keys end. none stands for what it stands for in Map.
use Prim.Native.Nat.{ℕ, zero, suc, ◌-◌, ◌^◌, min, max, Ordering, ◌<◌}
use Rattle.std.specs.Prelude.{◌≡◌, List, [], ◌∷◌, Bool, true, false, ◌&&◌, not, cond, ltb, leb, eqb, length}
use Rattle.std.proofs.Math.Option.{Option, some, none}
use Rattle.span.specs.Span.{Span, span, Edit}
use Rattle.rust_algorithm.specs.Btree.{rust_then, if_let, is_some, filtered, filtered_by, taken_while, reversed, taken, next}
use Rattle.rust_algorithm.specs.Btree.{up_to, starting, starting_by, deleted, entered}
use Rattle.rust_algorithm.specs.Map.{State, state, last_candidate, GapStep, gap_step, given_first, number_cmp, cmp_then}

-- range.end()
abbrev pub final : Span → ℕ
final x = x.hi - 1

-- the range s..=e with the value v
abbrev pub closed_range : ℕ → ℕ → ℕ → Span
closed_range s e v = span s (suc e) v

-- RangeInclusive::contains: is k in lo..=last
unfoldable pub inclusive_range_contains : ℕ → ℕ → ℕ → Bool
inclusive_range_contains lo last k = leb lo k && leb k last

-- std_ext.rs, 38-42: does a..=b overlap c..=d
unfoldable pub inclusive_ranges_overlap : ℕ → ℕ → ℕ → ℕ → Bool
inclusive_ranges_overlap a b c d = leb (max a c) (min b d)

module _ (add-one sub-one : ℕ → Option ℕ) where
  -- std_ext.rs, 44-67: does a..=b touch c..=d
  unfoldable pub inclusive_ranges_touch : ℕ → ℕ → ℕ → ℕ → Option Bool
  inclusive_ranges_touch a b c d = rust_then (cond (ltb (min b d) (max a c)) (add-one (min b d)) (some (min b d))) (λ extended. some (leb (max a c) extended))

  -- 489-498 and 526-534: add back what of the stored range x lies left of s
  unfoldable pub left_back : Span → ℕ → List Span → Option (List Span)
  left_back x s m = cond (ltb x.lo s) (rust_then (sub-one s) (λ e. some (entered (closed_range x.lo e x.label) m))) (some m)

  -- 499-508 and 535-543: add back what of it lies right of e
  unfoldable pub right_back : Span → ℕ → List Span → Option (List Span)
  right_back x e m = cond (ltb e (final x)) (rust_then (add-one e) (λ s. some (entered (closed_range s (final x) x.label) m))) (some m)

  -- 488-508, and 524-543: delete the stored range x, and add back what of it lies left of s..=e, and what lies right of it
  unfoldable pub inclusive_cut_out : Span → ℕ → ℕ → List Span → Option (List Span)
  inclusive_cut_out x s e m = rust_then (left_back x s (deleted x.lo m)) (right_back x e)

  -- 462-514: adjust_touching_ranges_for_insert
  unfoldable pub inclusive_adjust : Span → ℕ → State → Option State
  inclusive_adjust x v s = cond (eqb x.label v)
      (some (state (deleted x.lo s.btm) (min s.start x.lo) (max s.end (final x))))
      (cond (inclusive_ranges_overlap s.start s.end x.lo (final x))
      (rust_then (inclusive_cut_out x s.start s.end s.btm) (λ m. some (state m s.start s.end)))
      (some s))

  -- 275-295: the candidate; each of the two entries is asked whether it touches
  unfoldable pub inclusive_candidate : ℕ → ℕ → List Span → Option (Option Span)
  inclusive_candidate lo last m =
      rust_then (filtered_by (λ x. inclusive_ranges_touch x.lo (final x) lo last) (taken 2 (reversed (up_to lo m)))) (λ near. some (last_candidate near))

  -- 321-370: the loop, for n rounds at most; last is second_last_possible_start of 317-320
  unfoldable pub inclusive_insert_loop : ℕ → ℕ → ℕ → State → Option State
  inclusive_insert_loop zero last v s = none
  inclusive_insert_loop (suc n) last v s = if_let (next (starting s.start s.btm))
      (λ x. let round = rust_then (inclusive_adjust x v s) (inclusive_insert_loop n last v) in
      cond (ltb last x.lo)
      (rust_then (add-one last) (λ latest. cond (ltb latest x.lo) (some s) (cond (eqb x.lo latest && not (eqb x.label v)) (some s) round)))
      round)
      (some s)

  -- 373: insert the (possibly expanded) new range
  abbrev pub inclusive_finish : ℕ → State → Option (List Span)
  inclusive_finish v s = some (entered (closed_range s.start s.end v) s.btm)

  -- 317-373: from the loop on
  abbrev pub inclusive_insert_body : ℕ → State → Option (List Span)
  inclusive_insert_body v s = rust_then (inclusive_insert_loop (suc (length s.btm)) s.end v s) (inclusive_finish v)

  -- 249-374: insert
  unfoldable pub inclusive_insert : ℕ → ℕ → ℕ → List Span → Option (List Span)
  inclusive_insert lo last v m =
      let given = state m lo last in
      cond (leb lo last)
      (rust_then (inclusive_candidate lo last m) (λ c. rust_then (if_let c (λ x. inclusive_adjust x v given) (some given)) (inclusive_insert_body v)))
      none

  -- 407-421: the last that starts by lo, if it overlaps lo..=last
  unfoldable pub inclusive_remove_candidate : ℕ → ℕ → List Span → Option Span
  inclusive_remove_candidate lo last m = next (filtered (λ x. inclusive_ranges_overlap x.lo (final x) lo last) (taken 1 (reversed (up_to lo m))))

  -- 440-459: the loop, for n rounds at most
  unfoldable pub inclusive_remove_loop : ℕ → ℕ → ℕ → List Span → Option (List Span)
  inclusive_remove_loop zero lo last m = none
  inclusive_remove_loop (suc n) lo last m =
      if_let (next (starting_by lo last m)) (λ x. rust_then (inclusive_cut_out x lo last m) (inclusive_remove_loop n lo last)) (some m)

  -- 438-459: from the loop on
  abbrev pub inclusive_remove_body : ℕ → ℕ → List Span → Option (List Span)
  inclusive_remove_body lo last m = inclusive_remove_loop (suc (length m)) lo last m

  -- 386-460: remove
  unfoldable pub inclusive_remove : ℕ → ℕ → List Span → Option (List Span)
  inclusive_remove lo last m = cond (leb lo last)
      (rust_then (if_let (inclusive_remove_candidate lo last m) (λ x. inclusive_cut_out x lo last m) (some m)) (inclusive_remove_body lo last))
      none

  -- one call: insert where the edit gives a label, remove where it gives none. The edit from lo up to hi is a call with lo..=hi - 1
  unfoldable pub inclusive_edit : ℕ → ℕ → Option ℕ → List Span → Option (List Span)
  inclusive_edit lo hi none m = inclusive_remove lo (hi - 1) m
  inclusive_edit lo hi (some v) m = inclusive_insert lo (hi - 1) v m

  -- a sequence of calls
  unfoldable pub inclusive_history : List Edit → List Span → Option (List Span)
  inclusive_history [] m = some m
  inclusive_history (e ∷ es) m = rust_then (inclusive_edit e.lo e.hi e.new m) (inclusive_history es)

  -- 722-726: extend. from_iter (710-714) and from (941-947) are extend of an empty map
  unfoldable pub inclusive_extend : List Span → List Span → Option (List Span)
  inclusive_extend [] m = some m
  inclusive_extend (x ∷ xs) m = rust_then (inclusive_insert x.lo (final x) x.label m) (inclusive_extend xs)

-- what the theorems ask of them: where a key is below the greatest, the next one; where it is not the first, the one before
pub record StepFns (add-one sub-one : ℕ → Option ℕ) (greatest : ℕ) : Type 0 where
  pub adds : (z : ℕ) → z < greatest → add-one z ≡ some (suc z)
  pub subs : (z : ℕ) → 0 < z → sub-one z ≡ some (z - 1)

-- std_ext.rs, 110-117: i64's add_one and sub_one on ranks, x + 1 and x - 1, in a build that checks: it panics where the keys end
unfoldable pub add_one_checked : ℕ → Option ℕ
add_one_checked z = cond (ltb z (2 ^ 64 - 1)) (some (suc z)) none

unfoldable pub sub_one_checked : ℕ → Option ℕ
sub_one_checked z = cond (ltb 0 z) (some (z - 1)) none

-- the same in a build that does not check: it wraps where the keys end
unfoldable pub add_one_wrapping : ℕ → Option ℕ
add_one_wrapping z = cond (ltb z (2 ^ 64 - 1)) (some (suc z)) (some 0)

unfoldable pub sub_one_wrapping : ℕ → Option ℕ
sub_one_wrapping z = cond (ltb 0 z) (some (z - 1)) (some (2 ^ 64 - 1))

-- 199-214: get_key_value, the last that starts by the key, if it contains the key
unfoldable pub inclusive_get_key_value : ℕ → List Span → Option Span
inclusive_get_key_value k m = next (filtered (λ x. inclusive_range_contains x.lo (final x) k) (taken 1 (reversed (up_to k m))))

-- 193-195: get
unfoldable pub inclusive_get : ℕ → List Span → Option ℕ
inclusive_get k m = if_let (inclusive_get_key_value k m) (λ x. some x.label) none

-- 217-219: contains_key
unfoldable pub inclusive_contains_key : ℕ → List Span → Bool
inclusive_contains_key k m = is_some (inclusive_get_key_value k m)

-- 573-580: overlapping's BTreeMap::range(s..) over keys that are compared by their ends
unfoldable pub ending_from : ℕ → List Span → List Span
ending_from s m = filtered (λ x. leb s (final x)) m

-- 567-585 and 906-920: overlapping, and all that its iterator gives until it gives None
unfoldable pub inclusive_overlapping : ℕ → ℕ → List Span → List Span
inclusive_overlapping lo last m = taken_while (λ x. leb x.lo last) (ending_from lo m)

-- 927-935: the same from the back, all that next_back gives
unfoldable pub inclusive_overlapping_back : ℕ → ℕ → List Span → List Span
inclusive_overlapping_back lo last m = filtered (λ x. leb x.lo last) (reversed (ending_from lo m))

-- 589-591: overlaps
unfoldable pub inclusive_overlaps : ℕ → ℕ → List Span → Bool
inclusive_overlaps lo last m = is_some (next (inclusive_overlapping lo last m))

module _ (add-one sub-one : ℕ → Option ℕ) where
  -- 862-874: the gap at the end of the outer range, if there is one. After Gaps::next candidate_needs_plus_one is always true
  unfoldable pub inclusive_tail_gap : ℕ → Bool → ℕ → List Span → Option GapStep
  inclusive_tail_gap end plus c xs = cond plus
      (cond (ltb c end) (rust_then (add-one c) (λ s. some (gap_step (some (closed_range s end 0)) end xs))) (some (gap_step none end xs)))
      (cond (leb c end) (some (gap_step (some (closed_range c end 0)) end xs)) (some (gap_step none end xs)))

  -- 835-877: Gaps::next
  unfoldable pub inclusive_next_gap : ℕ → Bool → ℕ → List Span → Option GapStep
  inclusive_next_gap end plus c [] = inclusive_tail_gap end plus c []
  inclusive_next_gap end plus c (x ∷ xs) =
      let more = inclusive_next_gap end true (final x) xs in
      cond (ltb end x.lo) (inclusive_tail_gap end plus c xs) (rust_then (cond plus (add-one c) (some c)) (λ start.
      cond (ltb start x.lo) (rust_then (sub-one x.lo) (λ e. some (gap_step (some (closed_range start e 0)) (final x) xs))) more))

  -- all that Gaps gives until it gives None, in n calls at most
  unfoldable pub inclusive_collect_gaps : ℕ → ℕ → Bool → ℕ → List Span → Option (List Span)
  inclusive_collect_gaps zero end plus c xs = none
  inclusive_collect_gaps (suc n) end plus c xs =
      rust_then (inclusive_next_gap end plus c xs) (λ s. given_first s.gap (inclusive_collect_gaps n end true s.candidate s.iter))

  -- 551-563: gaps, collected
  unfoldable pub inclusive_gaps : ℕ → ℕ → List Span → Option (List Span)
  inclusive_gaps lo last m = let over = ending_from lo m in inclusive_collect_gaps (suc (suc (length over))) last false lo over

-- 72-74: eq, of what iter gives (126-130 and 629-631), range and value
unfoldable pub inclusive_eq : List Span → List Span → Bool
inclusive_eq [] [] = true
inclusive_eq [] (y ∷ ys) = false
inclusive_eq (x ∷ xs) [] = false
inclusive_eq (x ∷ xs) (y ∷ ys) = (eqb x.lo y.lo && eqb (final x) (final y)) && (eqb x.label y.label && inclusive_eq xs ys)

-- 101-103 and 90-92: cmp, of what expanded_iter (133-135) gives, start, end and value, place by place, a prefix first
unfoldable pub inclusive_cmp : List Span → List Span → Ordering
inclusive_cmp [] [] = Ordering.eq
inclusive_cmp [] (y ∷ ys) = Ordering.lt
inclusive_cmp (x ∷ xs) [] = Ordering.gt
inclusive_cmp (x ∷ xs) (y ∷ ys) =
    let rest = inclusive_cmp xs ys in
    cmp_then (number_cmp x.lo y.lo) (cmp_then (number_cmp (final x) (final y)) (cmp_then (number_cmp x.label y.label) rest))
