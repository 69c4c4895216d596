-- DOCUMENT 01's RULES OF REFUSALS: on any number but 0 every other result field is 0 and all lent memory is as it was; places of a list past the count are
-- as they were; of several refusals the first in document 01's order is answered. Bulk insert alone departs from the first two.
use Prim.Native.Nat.{ℕ, ◌+◌, ◌-◌, ◌≤◌, min, Ordering}
use native.Mathlib.Omega.{arith}
use mathlib.Core.Path.{◌≡◌, refl, sym, ap, ◌∙◌}
use mathlib.Core.Bool.{Bool, true, false, ◌&&◌, not, cond}
use mathlib.Core.List.{List, [], ◌∷◌, ◌++◌, map}
use mathlib.Core.Option.{Option}
use borrow.Author.Tests.{ltb-false}
use lib.Dec.{eqb, ltb}
use lib.ListN.{length, get_or, drop, length-append, length-drop, length-map}
use lib.Seq.{get_or-append-add, get_or-drop}
use lib.IntN.{ℤ, pos}
use Rattle.std.specs.Prelude.{Ok, Err, Some, None}
use Rattle.std.specs.declared.cmp.Ordering.TheVariants.{Less, Equal, Greater}
use Rattle.answers.specs.Answers.{done, empty_range, too_many, too_short, not_formed, none_there, no_map, total_over}
use Rattle.answers.specs.declared.Refusal.{Refusal}
use Rattle.answers.specs.declared.Refusal.TheVariants.{EmptyRange, TooShort, NotFormed}
use Rattle.span.specs.Span.{Span, given}
use Rattle.span.specs.Operations.{uncovered, spans_overlap, any, holds, common, united, span_total}
use Rattle.key.specs.Rank.{rank, keys, key_at}
use Rattle.key.specs.Range.{Kind, half_open, span_of, empty}
use Rattle.key.specs.declared.Entry.{Entry}
use Rattle.outcomes.specs.Stored.{places, ranges, storing}
use Rattle.outcomes.specs.declared.Stored.{Stored}
use Rattle.outcomes.specs.Numbers.{asked_in_c, counted_in_c, part_in_c, compared_in_c, totalled_in_c}
use Rattle.outcomes.specs.Numbers as Numbers
use Rattle.outcomes.specs.Outcomes.{not_written}
use Rattle.outcomes.specs.Outcomes.{yes_no, compared_by, is_equal, first_place, how_many, part_of, in_first_places, Written, Edited, leaving, extended}
use Rattle.outcomes.specs.Outcomes.{range_at_sound, lookup_sound, overlaps_sound, overlapping_sound, into_lists, gaps_sound, order_sound, edit_sound, formed}
use Rattle.outcomes.specs.Outcomes.{range_at, lookup, overlaps, overlapping, gaps, order, equal, edit, bulk_insert}
use Rattle.outcomes.specs.Sets.{plain, total_is, intersection_sound, union_sound, total_sound, formed_set, intersection, union, total_of}
use Rattle.outcomes.specs.Answered.{Asked, Counted, Found, Located, Compared, Totalled, places_from}
use Rattle.byte_form.specs.Layout.{rm01}
use Rattle.byte_form.specs.Form.{form_of, Output, output, map_in, is_form, read}
use Rattle.byte_form.specs.Form as Form

-- EVERY OTHER FIELD IS 0 on any number but 0: yes or no
pub told_zero : (a : Asked) → ((asked_in_c a).answer ≡ 0 → ⊥) → (asked_in_c a).yes ≡ false
told_zero (Ok true) n = absurd (n refl)
told_zero (Ok false) n = refl
told_zero (Err why) n = refl

-- a count
pub count_zero : (a : Counted) → ((counted_in_c a).answer ≡ 0 → ⊥) → (counted_in_c a).count ≡ 0
count_zero (Ok c) n = absurd (n refl)
count_zero (Err why) n = refl

-- a range and its value
pub range_zero : (a : Found) → ((Numbers.found_in_c a).answer ≡ 0 → ⊥)
    → ((Numbers.found_in_c a).start ≡ pos 0) × ((Numbers.found_in_c a).end ≡ pos 0) × ((Numbers.found_in_c a).value ≡ 0)
range_zero (Ok (Some x)) n = absurd (n refl)
range_zero (Ok None) n = (refl, refl, refl)
range_zero (Err why) n = (refl, refl, refl)

-- a part of the places
pub stretch_zero : (a : Located) → ((part_in_c a).answer ≡ 0 → ⊥) → ((part_in_c a).place ≡ 0) × ((part_in_c a).count ≡ 0)
stretch_zero (Ok p) n = absurd (n refl)
stretch_zero (Err why) n = (refl, refl)

-- an order
pub order_zero : (a : Compared) → ((compared_in_c a).answer ≡ 0 → ⊥) → (compared_in_c a).order ≡ pos 0
order_zero (Ok Less) n = absurd (n refl)
order_zero (Ok Equal) n = absurd (n refl)
order_zero (Ok Greater) n = absurd (n refl)
order_zero (Err why) n = refl

-- a total
pub total_zero : (a : Totalled) → ((totalled_in_c a).answer ≡ 0 → ⊥) → (totalled_in_c a).total ≡ 0
total_zero (Ok t) n = absurd (n refl)
total_zero (Err why) n = refl

-- ALL LENT MEMORY IS AS IT WAS on any number but 0: what stands behind a check leaves a map as it was where it does so alone
pub unchanged_behind : (m : Stored) (t : Bool) (o : Edited) → ((o.answer ≡ 0 → ⊥) → o.left ≡ m)
    → ((cond t o (leaving not_formed m)).answer ≡ 0 → ⊥) → (cond t o (leaving not_formed m)).left ≡ m
unchanged_behind m true o f n = f n
unchanged_behind m false o f n = refl

-- a map that is edited
module _ (kind : Kind) (m : Stored) (s e : ℤ) (new : Option ℕ) where
  -- insert or remove through the unchecked door, refused: the map is as it was
  pub sound_unchanged : ((edit_sound kind places m s e new).answer ≡ 0 → ⊥) → (edit_sound kind places m s e new).left ≡ m
  unfolding edit_sound
  sound_unchanged n = go (empty (span_of kind s e 0)) (ltb places (length xs)) n
    where
      xs : List Span
      xs = given (rank s) (kind.past e) new (ranges kind m)

      go : (t u : Bool) → ((cond t (leaving empty_range m) (cond u (leaving too_many m) (leaving done (storing kind places xs)))).answer ≡ 0 → ⊥)
          → (cond t (leaving empty_range m) (cond u (leaving too_many m) (leaving done (storing kind places xs)))).left ≡ m
      go true u n = refl
      go false true n = refl
      go false false n = absurd (n refl)

  -- and through the other
  pub edit_unchanged : ((edit kind m s e new).answer ≡ 0 → ⊥) → (edit kind m s e new).left ≡ m
  unfolding edit
  edit_unchanged n = unchanged_behind m (formed kind m) (edit_sound kind places m s e new) sound_unchanged n

-- a map that is read
pub read_unchanged : (m : Stored) (bs : List ℕ) → ((read rm01 m bs).answer ≡ 0 → ⊥) → (read rm01 m bs).left ≡ m
unfolding read
read_unchanged m bs n = go (is_form rm01 bs) n
  where
    go : (t : Bool) → ((cond t (leaving done (map_in rm01 bs)) (leaving no_map m)).answer ≡ 0 → ⊥) → (cond t (leaving done (map_in rm01 bs)) (leaving no_map m)).left ≡ m
    go true n = absurd (n refl)
    go false n = refl

-- a list, and with it its places PAST THE COUNT, whatever is answered
pub record Kept (w : Written) (starts ends : List ℤ) : Type 0 where
  pub refused : ((counted_in_c w.answer).answer ≡ 0 → ⊥) → (w.starts ≡ starts) × (w.ends ≡ ends)
  pub past : (k : ℕ) → (counted_in_c w.answer).count ≤ k → (get_or w.starts k (pos 0) ≡ get_or starts k (pos 0)) × (get_or w.ends k (pos 0) ≡ get_or ends k (pos 0))
  pub long : (length w.starts ≡ length starts) × (length w.ends ≡ length ends)

-- what is not written is kept
pub unwritten_kept : (why : Refusal) (starts ends : List ℤ) → Kept (not_written why starts ends) starts ends
unwritten_kept why starts ends = record { refused = λ h. (refl, refl); past = λ k h. (refl, refl); long = (refl, refl) }

-- what is written over the first places of a list leaves the others, and the length
over_past : {A : Type 0} (new old : List A) (k : ℕ) (z : A) → length new ≤ k → get_or (new ++ drop (length new) old) k z ≡ get_or old k z
over_past new old k z h =
    let e : length new + (k - length new) ≡ k = omega arith in
    ap (λ (j : ℕ). get_or (new ++ drop (length new) old) j z) (sym e) ∙ get_or-append-add new (drop (length new) old) (k - length new) z
    ∙ get_or-drop (length new) old (k - length new) z ∙ ap (λ (j : ℕ). get_or old j z) e

over_long : {A : Type 0} (new old : List A) → length new ≤ length old → length (new ++ drop (length new) old) ≡ length old
over_long new old h = omega (arith, length-append new (drop (length new) old), length-drop (length new) old)

-- any list of ranges that is to be written
pub writing_kept : (kind : Kind) (xs : List Span) (starts ends : List ℤ) → Kept (into_lists kind xs starts ends) starts ends
unfolding into_lists
writing_kept kind xs starts ends = go (ltb (min (length starts) (length ends)) (length xs)) refl
  where
    los : List ℤ
    los = map (λ (x : Span). key_at x.lo) xs

    his : List ℤ
    his = map (λ (x : Span). kind.ending x.hi) xs

    go : (t : Bool) → ltb (min (length starts) (length ends)) (length xs) ≡ t
        → Kept (cond t (not_written TooShort starts ends) (record { answer = Ok (length xs); starts = in_first_places los starts; ends = in_first_places his ends })) starts ends
    go true e = unwritten_kept TooShort starts ends
    go false e =
        let h = ltb-false (min (length starts) (length ends)) (length xs) e in
        let a : length los ≡ length xs = length-map xs (λ (x : Span). key_at x.lo) in
        let b : length his ≡ length xs = length-map xs (λ (x : Span). kind.ending x.hi) in
        record {
          refused = λ n. absurd (n refl);
          past = λ k l. (over_past los starts k (pos 0) (omega arith), over_past his ends k (pos 0) (omega arith));
          long = (over_long los starts (omega arith), over_long his ends (omega arith));
        }

-- kept either way
pub kept_either : {v w : Written} {starts ends : List ℤ} (t : Bool) → Kept v starts ends → Kept w starts ends → Kept (cond t v w) starts ends
kept_either true a b = a
kept_either false a b = b

module _ (kind : Kind) (starts ends : List ℤ) where
  -- gaps
  pub gaps_kept : (m : Stored) (s e : ℤ) → Kept (gaps kind m s e starts ends) starts ends
  unfolding gaps gaps_sound
  gaps_kept m s e =
      let then = kept_either (empty (span_of kind s e 0)) (unwritten_kept EmptyRange starts ends) (writing_kept kind _ starts ends) in
      kept_either (formed kind m) then (unwritten_kept NotFormed starts ends)

  -- intersection
  pub intersection_kept : (a b : Stored) → Kept (intersection kind a b starts ends) starts ends
  unfolding intersection intersection_sound
  intersection_kept a b = kept_either (formed_set kind a && formed_set kind b) (writing_kept kind _ starts ends) (unwritten_kept NotFormed starts ends)

  -- union
  pub union_kept : (a b : Stored) → Kept (union kind a b starts ends) starts ends
  unfolding union union_sound
  union_kept a b = kept_either (formed_set kind a && formed_set kind b) (writing_kept kind _ starts ends) (unwritten_kept NotFormed starts ends)

-- the bytes that a map is written into
pub record BytesKept (o : Output) (out : List ℕ) : Type 0 where
  pub refused : ((counted_in_c o.answer).answer ≡ 0 → ⊥) → o.out ≡ out
  pub past : (k : ℕ) → (counted_in_c o.answer).count ≤ k → get_or o.out k 0 ≡ get_or out k 0
  pub long : length o.out ≡ length out

-- the writer of bytes
pub write_kept : (m : Stored) (out : List ℕ) → BytesKept (Form.write rm01 m out) out
unfolding Form.write Form.into_output
write_kept m out = go (formed half_open m) (ltb (length out) (length bs)) refl
  where
    bs : List ℕ
    bs = form_of rm01 m

    go : (f t : Bool) → ltb (length out) (length bs) ≡ t
        → BytesKept (cond f (cond t (output (Err TooShort) out) (output (Ok (length bs)) (bs ++ drop (length bs) out)))
        (output (Err NotFormed) out)) out
    go false t e = record { refused = λ n. refl; past = λ k l. refl; long = refl }
    go true true e = record { refused = λ n. refl; past = λ k l. refl; long = refl }
    go true false e = record {
      refused = λ n. absurd (n refl);
      past = λ k l. over_past bs out k 0 l;
      long = over_long bs out (ltb-false (length out) (length bs) e);
    }

-- THE ORDER OF REFUSALS: each reason to refuse has its number, and of a list in document 01's order the first that holds is answered, or 0 where none does
pub record Reason : Type 0 where
  pub applies : Bool
  pub number : ℕ

-- a reason, with its number
abbrev pub refuse : Bool → ℕ → Reason
refuse t n = record { applies = t; number = n }

-- the number of the first reason that applies, or 0
abbrev pub first_number : List Reason → ℕ
first_number [] = 0
first_number (x ∷ xs) = cond x.applies x.number (first_number xs)

-- 4: the lent map is not well formed
abbrev pub unformed : Kind → Stored → Reason
unformed kind m = refuse (not (formed kind m)) not_formed

-- 4 too: some value of the lent set is not 0
abbrev pub no_set : Stored → Reason
no_set m = refuse (not (plain m)) not_formed

-- 1: the range is empty or reversed
abbrev pub keyless : Kind → ℤ → ℤ → Reason
keyless kind s e = refuse (empty (span_of kind s e 0)) empty_range

-- 9: the total is over 2^64 - 1
abbrev pub over_total : List Span → Reason
over_total xs = refuse (not (ltb (span_total xs) keys)) total_over

-- 5: the map has no range at the place
abbrev pub nothing_at : Stored → ℕ → Reason
nothing_at m i = refuse (not (ltb i m.count)) none_there

-- 2: the final ranges are more than a map has places
abbrev pub overfull : List Span → Reason
overfull xs = refuse (ltb places (length xs)) too_many

-- 3: one of the two lent lists is too short
abbrev pub overlong : List Span → List ℤ → List ℤ → Reason
overlong xs starts ends = refuse (ltb (min (length starts) (length ends)) (length xs)) too_short

-- the number of an answer that stands behind a test
module _ {A : Type 0} (number : A → ℕ) {n r : ℕ} {x y : A} where
  -- a test that lets pass
  pub lets_pass : (t : Bool) → number y ≡ n → number x ≡ r → number (cond t x y) ≡ cond (not t) n r
  lets_pass true a b = b
  lets_pass false a b = a

  -- a test that refuses
  pub refuses : (t : Bool) → number x ≡ n → number y ≡ r → number (cond t x y) ≡ cond t n r
  refuses true a b = a
  refuses false a b = b

  -- two tests that let pass, one after the other
  pub both_pass : (s t : Bool) → number y ≡ n → number x ≡ r → number (cond (s && t) x y) ≡ cond (not s) n (cond (not t) n r)
  both_pass true true a b = b
  both_pass true false a b = a
  both_pass false t a b = a

  -- and four
  all_pass : (s t u v : Bool) → number y ≡ n → number x ≡ r
      → number (cond ((s && t) && (u && v)) x y) ≡ cond (not s) n (cond (not t) n (cond (not u) n (cond (not v) n r)))
  all_pass true true u v a b = both_pass u v a b
  all_pass true false u v a b = a
  all_pass false t u v a b = a

-- yes or no is answered with 0
pub told_done : (t : Bool) → (asked_in_c (yes_no t)).answer ≡ 0
told_done true = refl
told_done false = refl

order_done : (o : Ordering) → (compared_in_c (compared_by o)).answer ≡ 0
order_done Ordering.lt = refl
order_done Ordering.eq = refl
order_done Ordering.gt = refl

part_done : (p : Span → Bool) (xs : List Span) → (part_in_c (part_of p xs)).answer ≡ 0
unfolding part_of
part_done p xs = go (eqb (how_many p xs) 0)
  where
    go : (t : Bool) → (part_in_c (cond t (Ok (places_from 0 0)) (Ok (places_from (first_place p xs) (how_many p xs))))).answer ≡ 0
    go true = refl
    go false = refl

-- the number of each answer: of yes or no
abbrev pub told_number : Asked → ℕ
told_number a = (asked_in_c a).answer

-- of a range found
abbrev pub found_number : Found → ℕ
found_number a = (Numbers.found_in_c a).answer

-- of a part of the places
abbrev pub part_number : Located → ℕ
part_number a = (part_in_c a).answer

-- of a comparison
abbrev pub order_number : Compared → ℕ
order_number a = (compared_in_c a).answer

-- of a total
abbrev pub total_number : Totalled → ℕ
total_number a = (totalled_in_c a).answer

-- of a list that is written
abbrev pub list_number : Written → ℕ
list_number w = (counted_in_c w.answer).answer

-- of bytes that are written
abbrev pub bytes_number : Output → ℕ
bytes_number o = (counted_in_c o.answer).answer

-- of an edit
abbrev pub edit_number : Edited → ℕ
edit_number o = o.answer

module _ (kind : Kind) where
  -- EDIT: 4, 1, 2, and 2 is judged on the final map
  pub edit_order : (m : Stored) (s e : ℤ) (new : Option ℕ)
      → (edit kind m s e new).answer ≡ first_number (unformed kind m ∷ keyless kind s e ∷ overfull (given (rank s) (kind.past e) new (ranges kind m)) ∷ [])
  unfolding edit edit_sound
  edit_order m s e new =
      let many = ltb places (length (given (rank s) (kind.past e) new (ranges kind m))) in
      lets_pass edit_number (formed kind m) refl (refuses edit_number (empty (span_of kind s e 0)) refl (refuses edit_number many refl refl))

  -- BULK INSERT: 4 before any entry is looked at; nothing is applied, and the map is as it was. Of each entry then 1, 2, as an edit
  pub bulk_order : (m : Stored) (xs : List Entry) → formed kind m ≡ false → bulk_insert kind m xs ≡ extended (record { answer = 4; applied = 0 }) m
  unfolding bulk_insert
  bulk_order m xs f = rw f

  -- RANGE AT A PLACE: 4, 5
  pub place_order : (m : Stored) (i : ℕ) → found_number (range_at kind m i) ≡ first_number (unformed kind m ∷ nothing_at m i ∷ [])
  unfolding range_at range_at_sound
  place_order m i = lets_pass found_number (formed kind m) refl (lets_pass found_number (ltb i m.count) refl refl)

  -- LOOKUP: 4, 5
  pub lookup_order : (m : Stored) (k : ℤ)
      → found_number (lookup kind m k) ≡ first_number (unformed kind m ∷ nothing_at m (first_place (holds (rank k)) (ranges kind m)) ∷ [])
  unfolding lookup lookup_sound range_at_sound
  lookup_order m k = lets_pass found_number (formed kind m) refl (lets_pass found_number (ltb (first_place (holds (rank k)) (ranges kind m)) m.count) refl refl)

  -- OVERLAPS: 4, 1
  pub overlaps_order : (m : Stored) (s e : ℤ) → told_number (overlaps kind m s e) ≡ first_number (unformed kind m ∷ keyless kind s e ∷ [])
  unfolding overlaps overlaps_sound
  overlaps_order m s e =
      let q = span_of kind s e 0 in
      lets_pass told_number (formed kind m) refl (refuses told_number (empty q) refl (told_done (any (spans_overlap q) (ranges kind m))))

  -- OVERLAPPING: 4, 1
  pub overlapping_order : (m : Stored) (s e : ℤ) → part_number (overlapping kind m s e) ≡ first_number (unformed kind m ∷ keyless kind s e ∷ [])
  unfolding overlapping overlapping_sound
  overlapping_order m s e =
      let q = span_of kind s e 0 in
      lets_pass part_number (formed kind m) refl (refuses part_number (empty q) refl (part_done (spans_overlap q) (ranges kind m)))

  -- EQUALITY: 4 of the first map, then 4 of the second
  pub equality_order : (a b : Stored) → told_number (equal kind a b) ≡ first_number (unformed kind a ∷ unformed kind b ∷ [])
  unfolding equal
  equality_order a b = both_pass told_number (formed kind a) (formed kind b) refl (told_done (is_equal (order_sound kind a b)))

  -- ORDER: 4 of the first map, then 4 of the second
  pub ordering_order : (a b : Stored) → order_number (order kind a b) ≡ first_number (unformed kind a ∷ unformed kind b ∷ [])
  unfolding order
  ordering_order a b = both_pass order_number (formed kind a) (formed kind b) refl (order_done (order_sound kind a b))

  -- a list: 3
  pub writing_order : (xs : List Span) (starts ends : List ℤ) → list_number (into_lists kind xs starts ends) ≡ first_number (overlong xs starts ends ∷ [])
  unfolding into_lists
  writing_order xs starts ends = refuses list_number (ltb (min (length starts) (length ends)) (length xs)) refl refl

  -- GAPS: 4, 1, 3
  pub gaps_order : (m : Stored) (s e : ℤ) (starts ends : List ℤ)
      → list_number (gaps kind m s e starts ends)
      ≡ first_number (unformed kind m ∷ keyless kind s e ∷ overlong (uncovered (rank s) (kind.past e) (ranges kind m)) starts ends ∷ [])
  unfolding gaps gaps_sound
  gaps_order m s e starts ends =
      let last = writing_order (uncovered (rank s) (kind.past e) (ranges kind m)) starts ends in
      lets_pass list_number (formed kind m) refl (refuses list_number (empty (span_of kind s e 0)) refl last)

  -- INTERSECTION: 4 of the first set, then 4 of the second, 3
  pub intersection_order : (a b : Stored) (starts ends : List ℤ)
      → list_number (intersection kind a b starts ends)
      ≡ first_number (unformed kind a ∷ no_set a ∷ unformed kind b ∷ no_set b ∷ overlong (common (ranges kind a) (ranges kind b)) starts ends ∷ [])
  unfolding intersection intersection_sound
  intersection_order a b starts ends =
      all_pass list_number (formed kind a) (plain a) (formed kind b) (plain b) refl (writing_order (common (ranges kind a) (ranges kind b)) starts ends)

  -- UNION: 4 of the first set, then 4 of the second, 3
  pub union_order : (a b : Stored) (starts ends : List ℤ)
      → list_number (union kind a b starts ends)
      ≡ first_number (unformed kind a ∷ no_set a ∷ unformed kind b ∷ no_set b ∷ overlong (united (ranges kind a) (ranges kind b)) starts ends ∷ [])
  unfolding union union_sound
  union_order a b starts ends =
      all_pass list_number (formed kind a) (plain a) (formed kind b) (plain b) refl (writing_order (united (ranges kind a) (ranges kind b)) starts ends)

  -- TOTAL: 4, 9
  pub total_order : (m : Stored) → total_number (total_of kind m) ≡ first_number (unformed kind m ∷ no_set m ∷ over_total (ranges kind m) ∷ [])
  unfolding total_of total_sound total_is
  total_order m = both_pass total_number (formed kind m) (plain m) refl (lets_pass total_number (ltb (span_total (ranges kind m)) keys) refl refl)

-- THE WRITER of bytes: 4, 3
pub write_order : (m : Stored) (out : List ℕ)
    → bytes_number (Form.write rm01 m out) ≡ first_number (unformed half_open m ∷ refuse (ltb (length out) (length (form_of rm01 m))) too_short ∷ [])
unfolding Form.write Form.into_output
write_order m out = lets_pass bytes_number (formed half_open m) refl (refuses bytes_number (ltb (length out) (length (form_of rm01 m))) refl refl)
