-- RangeMap of rangemap 1.8.0, after its file src/map.rs, whose lines are cited. (MIT or Apache 2.0, by its authors.)
-- A function answers none where the Rust panics, and where a loop has not ended after as many rounds as there are entries, and one more.
use Prim.Native.Nat.{ℕ, zero, suc, min, max, Ordering}
use Rattle.std.specs.Prelude.{List, [], ◌∷◌, Bool, true, false, ◌&&◌, not, cond, ltb, leb, eqb, length}
use Rattle.std.proofs.Math.Option.{Option, some, none}
use Rattle.span.specs.Span.{Span, span, inside, Edit}
use Rattle.rust_algorithm.specs.Btree.{rust_then, if_let, is_some, filtered, taken_while, reversed, taken, next, next_back}
use Rattle.rust_algorithm.specs.Btree.{up_to, from_to, strictly_between, deleted, entered}

-- std_ext.rs, 12-16: does a..b overlap c..d
unfoldable pub rust_ranges_overlap : ℕ → ℕ → ℕ → ℕ → Bool
rust_ranges_overlap a b c d = ltb (max a c) (min b d)

-- std_ext.rs, 18-24: does a..b touch c..d
unfoldable pub rust_ranges_touch : ℕ → ℕ → ℕ → ℕ → Bool
rust_ranges_touch a b c d = leb (max a c) (min b d)

-- what insert changes: self.btm, and the range to insert, new_start_wrapper.end_wrapper.range
pub record State : Type 0 where
  pub btm : List Span
  pub start : ℕ
  pub end : ℕ

abbrev pub state : List Span → ℕ → ℕ → State
state m s e = record { btm = m; start = s; end = e }

-- 464-482, and 498-513: delete the stored range x, and add back what of it lies left of s..e, and what lies right of it
unfoldable pub cut_out : Span → ℕ → ℕ → List Span → List Span
cut_out x s e m =
    let gone = deleted x.lo m in
    let left = cond (ltb x.lo s) (entered (span x.lo s x.label) gone) gone in
    cond (ltb e x.hi) (entered (span e x.hi x.label) left) left

-- 439-488: adjust_touching_ranges_for_insert
unfoldable pub adjust : Span → ℕ → State → State
adjust x v s = cond (eqb x.label v)
    (state (deleted x.lo s.btm) (min s.start x.lo) (max s.end x.hi))
    (cond (rust_ranges_overlap s.start s.end x.lo x.hi) (state (cut_out x s.start s.end s.btm) s.start s.end) s)

-- 296-300: the first candidate, or the one after it if there are two
abbrev pub last_candidate : List Span → Option Span
last_candidate [] = none
last_candidate (x ∷ []) = some x
last_candidate (x ∷ y ∷ ys) = some y

-- 278-295: the candidates, of those that start by lo the last two, the last one first, that touch lo..hi
unfoldable pub candidate : ℕ → ℕ → List Span → Option Span
candidate lo hi m = last_candidate (filtered (λ x. rust_ranges_touch x.lo x.hi lo hi) (taken 2 (reversed (up_to lo m))))

-- 326-359: the loop, for n rounds at most; last is new_range_end_as_start of 322-325. BTreeMap::range panics where its start is past its end
unfoldable pub insert_loop : ℕ → ℕ → ℕ → State → Option State
insert_loop zero last v s = none
insert_loop (suc n) last v s = cond (ltb last s.start) none (if_let (next (from_to s.start last s.btm))
    (λ x. let round = insert_loop n last v (adjust x v s) in cond (eqb x.lo s.end && not (eqb x.label v)) (some s) round)
    (some s))

-- 362: insert the (possibly expanded) new range
abbrev pub finish : ℕ → State → Option (List Span)
finish v s = some (entered (span s.start s.end v) s.btm)

-- 322-362: from the loop on
abbrev pub insert_body : ℕ → State → Option (List Span)
insert_body v s = rust_then (insert_loop (suc (length s.btm)) s.end v s) (finish v)

-- 261-363: insert
unfoldable pub map_insert : ℕ → ℕ → ℕ → List Span → Option (List Span)
map_insert lo hi v m =
    let given = state m lo hi in
    cond (ltb lo hi) (insert_body v (if_let (candidate lo hi m) (λ x. adjust x v given) given)) none

-- 388-402: the last that starts by lo, if it overlaps lo..hi
unfoldable pub remove_candidate : ℕ → ℕ → List Span → Option Span
remove_candidate lo hi m = next (filtered (λ x. rust_ranges_overlap x.lo x.hi lo hi) (taken 1 (reversed (up_to lo m))))

-- 420-436: the loop, for n rounds at most
unfoldable pub remove_loop : ℕ → ℕ → ℕ → List Span → Option (List Span)
remove_loop zero lo hi m = none
remove_loop (suc n) lo hi m = if_let (next (strictly_between lo hi m)) (λ x. remove_loop n lo hi (cut_out x lo hi m)) (some m)

-- 419-436: from the loop on. (BTreeMap::range panics where its start is past its end, or both are excluded and equal; here lo < hi)
abbrev pub remove_body : ℕ → ℕ → List Span → Option (List Span)
remove_body lo hi m = remove_loop (suc (length m)) lo hi m

-- 375-437: remove
unfoldable pub map_remove : ℕ → ℕ → List Span → Option (List Span)
map_remove lo hi m = cond (ltb lo hi) (remove_body lo hi (if_let (remove_candidate lo hi m) (λ x. cut_out x lo hi m) m)) none

-- one call: insert where the edit gives a label, remove where it gives none
unfoldable pub map_edit : ℕ → ℕ → Option ℕ → List Span → Option (List Span)
map_edit lo hi none m = map_remove lo hi m
map_edit lo hi (some v) m = map_insert lo hi v m

-- a sequence of calls
unfoldable pub map_history : List Edit → List Span → Option (List Span)
map_history [] m = some m
map_history (e ∷ es) m = rust_then (map_edit e.lo e.hi e.new m) (map_history es)

-- 627-631: extend. from_iter (615-619) and from (823-829) are extend of an empty map
unfoldable pub map_extend : List Span → List Span → Option (List Span)
map_extend [] m = some m
map_extend (x ∷ xs) m = rust_then (map_insert x.lo x.hi x.label m) (map_extend xs)

-- 163-176: get_key_value, the last that starts by the key, if it contains the key (Range::contains is `inside`)
unfoldable pub map_get_key_value : ℕ → List Span → Option Span
map_get_key_value k m = next (filtered (λ x. inside x.lo x.hi k) (taken 1 (reversed (up_to k m))))

-- 157-159: get
unfoldable pub map_get : ℕ → List Span → Option ℕ
map_get k m = if_let (map_get_key_value k m) (λ x. some x.label) none

-- 179-181: contains_key
unfoldable pub map_contains_key : ℕ → List Span → Bool
map_contains_key k m = is_some (map_get_key_value k m)

-- 206-213: overlapping's BTreeMap::range((Excluded(s), Unbounded)) over keys that are compared by their ends
unfoldable pub ending_past : ℕ → List Span → List Span
ending_past s m = filtered (λ x. ltb s x.hi) m

-- 203-218 and 790-804: overlapping, and all that its iterator gives until it gives None
unfoldable pub map_overlapping : ℕ → ℕ → List Span → List Span
map_overlapping lo hi m = taken_while (λ x. ltb x.lo hi) (ending_past lo m)

-- 811-819: the same from the back, all that next_back gives
unfoldable pub map_overlapping_back : ℕ → ℕ → List Span → List Span
map_overlapping_back lo hi m = filtered (λ x. ltb x.lo hi) (reversed (ending_past lo m))

-- 222-224: overlaps
unfoldable pub map_overlaps : ℕ → ℕ → List Span → Bool
map_overlaps lo hi m = is_some (next (map_overlapping lo hi m))

-- 228-232: first_range_value; 236-240: last_range_value
abbrev pub map_first : List Span → Option Span
map_first m = next m

abbrev pub map_last : List Span → Option Span
map_last m = next_back m

-- 134-136: len; 139-141: is_empty
abbrev pub map_len : List Span → ℕ
map_len m = length m

abbrev pub map_is_empty : List Span → Bool
map_is_empty m = eqb (length m) 0

-- what Gaps::next answers, and candidate_start and btm_range_iter after it (713-717). A gap has the label 0
pub record GapStep : Type 0 where
  pub gap : Option Span
  pub candidate : ℕ
  pub iter : List Span

abbrev pub gap_step : Option Span → ℕ → List Span → GapStep
gap_step g c xs = record { gap = g; candidate = c; iter = xs }

-- 752-761: the gap at the end of the query range, if there is one
unfoldable pub tail_gap : ℕ → ℕ → List Span → GapStep
tail_gap end c xs = cond (ltb c end) (gap_step (some (span c end 0)) end xs) (gap_step none c xs)

-- 728-761: Gaps::next
unfoldable pub next_gap : ℕ → ℕ → List Span → GapStep
next_gap end c [] = tail_gap end c []
next_gap end c (x ∷ xs) = let more = next_gap end x.hi xs in
    cond (leb end x.lo) (tail_gap end c xs) (cond (ltb c x.lo) (gap_step (some (span c x.lo 0)) x.hi xs) more)

-- what an iterator gives, put before what it gives after that; it is asked no more once it has given None
abbrev pub given_first : Option Span → Option (List Span) → Option (List Span)
given_first none gs = some []
given_first (some g) none = none
given_first (some g) (some gs) = some (g ∷ gs)

-- all that Gaps gives until it gives None, in n calls at most
unfoldable pub collect_gaps : ℕ → ℕ → ℕ → List Span → Option (List Span)
collect_gaps zero end c xs = none
collect_gaps (suc n) end c xs = let s = next_gap end c xs in given_first s.gap (collect_gaps n end s.candidate s.iter)

-- 192-199: gaps, collected
unfoldable pub map_gaps : ℕ → ℕ → List Span → Option (List Span)
map_gaps lo hi m = let over = ending_past lo m in collect_gaps (suc (suc (length over))) hi lo over

-- 59-61: eq, of what iter gives (122-126 and 536-540), range and value
unfoldable pub map_eq : List Span → List Span → Bool
map_eq [] [] = true
map_eq [] (y ∷ ys) = false
map_eq (x ∷ xs) [] = false
map_eq (x ∷ xs) (y ∷ ys) = (eqb x.lo y.lo && eqb x.hi y.hi) && (eqb x.label y.label && map_eq xs ys)

-- Ord::cmp of keys and of values
unfoldable pub number_cmp : ℕ → ℕ → Ordering
number_cmp a b = cond (ltb a b) Ordering.lt (cond (ltb b a) Ordering.gt Ordering.eq)

-- Ordering::then: the first that is not equal
abbrev pub cmp_then : Ordering → Ordering → Ordering
cmp_then Ordering.lt o = Ordering.lt
cmp_then Ordering.eq o = o
cmp_then Ordering.gt o = Ordering.gt

-- 81-83 and 70-72: cmp, of what expanded_iter (146-148) gives, start, end and value, place by place, a prefix first
unfoldable pub map_cmp : List Span → List Span → Ordering
map_cmp [] [] = Ordering.eq
map_cmp [] (y ∷ ys) = Ordering.lt
map_cmp (x ∷ xs) [] = Ordering.gt
map_cmp (x ∷ xs) (y ∷ ys) =
    let rest = map_cmp xs ys in
    cmp_then (number_cmp x.lo y.lo) (cmp_then (number_cmp x.hi y.hi) (cmp_then (number_cmp x.label y.label) rest))
