-- THE THEOREM: for both kinds of map and of set, at both ends of i64, the ledger is equal to the Rust on every input not refused.
use Prim.Native.Nat.{ℕ, ◌-◌, ◌≤◌, ◌<◌}
use native.Mathlib.Omega.{arith}
use native.Mathlib.Decide.{dec_lt}
use mathlib.Core.Path.{◌≡◌, refl, ap, sym, subst, ◌∙◌}
use mathlib.Core.Bool.{Bool, true, false, cond}
use mathlib.Core.List.{List, [], ◌∷◌, map}
use mathlib.Core.Option.{Option, some, none}
use lib.Dec.{leb, eqb}
use lib.ListN.{length, take}
use lib.IntN.{ℤ}
use mir.Syntax.{w64}
use mir.Val.{SFits}
use borrow.Author.Tests.{lt-ltb, le-ltb, le-leb, lt-leb, eqb-true, eq-eqb}
use Rattle.std.specs.Prelude.{Ok}
use Rattle.answers.specs.Answers.{done}
use Rattle.span.specs.Span.{Span, span, inside, at, Ordered, Upto, given, Real, history, Edit}
use Rattle.span.specs.Operations.{Plain, holds, uncovered, common, united}
use Rattle.span.proofs.Tests.{cases}
use Rattle.span.proofs.Laws.{nothing, tidy_given, at_given}
use Rattle.span.proofs.Sets.{plain_at, at_zero}
use Rattle.span.proofs.Walks.{tidy_spaced}
use Rattle.key.specs.Rank.{rank, keys, lesser, greater}
use Rattle.key.specs.Range.{Kind, half_open, inclusive, span_of}
use Rattle.key.specs.declared.Entry.{Entry}
use Rattle.key.proofs.Laws.{key_at_rank, rank_greater, lesser_fits, greater_fits}
use Rattle.key.proofs.Lawful.{Lawful}
use Rattle.relations.specs.Relations as relations
use Rattle.relations.specs.Relations.{Common}
use Rattle.outcomes.specs.Stored.{places, ranges, storing, well_formed}
use Rattle.outcomes.specs.declared.Stored.{Stored}
use Rattle.outcomes.specs.Outcomes.{Edited, leaving, edit_sound, edit, clear, Change, edits, span_edits, first_place, range_at_sound}
use Rattle.outcomes.specs.Outcomes.{yes_no, lookup_sound, contains_sound, overlaps_sound, overlapping_sound, gaps_sound, order_sound}
use Rattle.outcomes.specs.Outcomes.{is_empty, count_of, range_at, lookup, contains, overlaps, overlapping, gaps, equal, order, bulk_insert_sound, entry_change}
use Rattle.outcomes.specs.Sets.{plain, SoundSet, intersection_sound, union_sound, intersection, union}
use Rattle.outcomes.proofs.Formed.{formed, shape, length_ranges, get_or_ranges, sound_held}
use Rattle.outcomes.proofs.Storing.{upto_ranges, sound_storing, length_storing}
use Rattle.outcomes.proofs.Edits.{edit_accepted, edit_ranges, edit_sound_lem, edit_length, none_refused, ranges_cleared}
use Rattle.outcomes.proofs.Bulk.{changes_puts, bulk_singles}
use Rattle.outcomes.proofs.Sets.{plain_ranges, plain_storing}
use Rattle.rust_algorithm.specs.Btree.{next_back, nth}
use Rattle.rust_algorithm.specs.InclusiveMap.{add_one_checked, sub_one_checked, add_one_wrapping, sub_one_wrapping}
use Rattle.rust_algorithm.specs.Operations.{range_intersect}
use Rattle.rust_algorithm.specs.Answers.{Functions, half_open_rust, inclusive_rust, common_by, rust_found, rust_edited, rust_run}
use Rattle.rust_algorithm.specs.Equal.{LentMap, PartGiven, ListGiven, SameRelations, SameHistory, SameAnswers, SameOrder, SameOfSets, OfSet, entry_spans}
use Rattle.rust_algorithm.specs.Equal.{applied, EqualToTheRust}
use Rattle.rust_algorithm.proofs.InclusiveHistory.{By, checked, wrapping}
use Rattle.rust_algorithm.proofs.Places.{nth_here, nth_past, nth_zero, nth_last, nth_first, part_gives}
use Rattle.rust_algorithm.proofs.Same.{Kept, KeptSet, Same, Transcribed, half_open_map, inclusive_map}

module _ (kind : Kind) (rust : Functions) (transcribed : Transcribed kind rust) where
  abbrev law : Lawful kind
  law = transcribed.law

  abbrev same : Same rust transcribed.least keys
  same = transcribed.same

  abbrev ends_from : (e : ℤ) → transcribed.least ≤ kind.past e
  ends_from = transcribed.ends_from

  -- the ranges of a well-formed map are as the theorems of lists ask
  upto_keys : (m : List Span) → Upto law.limit m → Upto keys m
  upto_keys [] u = tt
  upto_keys (x ∷ xs) u = (omega (arith, law.limit_keys), upto_keys xs u.1)

  pub ends_by : (e : ℤ) → kind.past e ≤ keys
  ends_by e = omega (arith, law.ends_within e, law.limit_keys)

  pub kept : (m : Stored) → well_formed kind places m ≡ true → Kept keys (ranges kind m)
  kept m w = record { tidy = (formed kind places m w).tidy; upto = upto_keys (ranges kind m) (upto_ranges kind law m) }

  -- TWO RANGES
  common_keys : (s e s' e' : ℤ) → SFits w64 s → SFits w64 e → SFits w64 s' → SFits w64 e'
      → relations.ranges_intersect kind s e s' e' ≡ common_by kind (range_intersect (span_of kind s e 0) (span_of kind s' e' 0))
  unfolding relations.ranges_intersect range_intersect
  common_keys s e s' e' f g f' g' = rw (← rank_greater s s', ← law.least e e')
      (cases (leb (kind.past (lesser e e')) (rank (greater s s')))
      (λ (z : Common). z ≡ common_by kind (cond (leb (kind.past (lesser e e')) (rank (greater s s')))
      none (some (span (rank (greater s s')) (kind.past (lesser e e')) 0))))
      (λ h. rw h) (λ h. rw (h, key_at_rank (greater_fits f f'), law.back (lesser_fits g g'))))

  pub relations_equal : (s e s' e' : ℤ) → SameRelations kind rust s e s' e'
  relations_equal s e s' e' = record {
    contains = λ k h. unfold relations.range_contains in rw (lt-leb (kind.past e) (rank s) h, same.contains_range (rank s) (kind.past e) (rank k) (ends_from e));
    overlaps = λ h i. unfold relations.ranges_overlap in rw (
      lt-leb (kind.past e) (rank s) h,
      lt-leb (kind.past e') (rank s') i,
      same.overlaps_range (rank s) (kind.past e) (rank s') (kind.past e') h i,
    );
    touches = λ h i. unfold relations.ranges_touch in rw (
      lt-leb (kind.past e) (rank s) h,
      lt-leb (kind.past e') (rank s') i,
      same.touches_range (rank s) (kind.past e) (rank s') (kind.past e') h i (ends_by e) (ends_by e'),
    );
    intersect = λ f g f' g'. common_keys s e s' e' f g f' g'
        ∙ ap (common_by kind) (sym (same.intersect_range (span_of kind s e 0) (span_of kind s' e' 0) (ends_from e) (ends_from e')));
  }

  -- AN EDIT
  pub edit_equal : (m : Stored) (s e : ℤ) (new : Option ℕ) → well_formed kind places m ≡ true → edit kind m s e new ≡ rust_edited kind rust m s e new
  unfolding edit edit_sound
  edit_equal m s e new w = elim (dec_lt (rank s) (kind.past e)) [
    | yes h ↦ rw (
      w,
      lt-leb (kind.past e) (rank s) h,
      same.edit_same (rank s) (kind.past e) new (ranges kind m) h (ends_by e) (kept m w),
    )
    | no h ↦ rw (
      w,
      le-leb (kind.past e) (rank s) (omega arith),
      same.edit_panics (rank s) (kind.past e) new (ranges kind m) (ends_from e) (omega arith),
    )
  ]

  pub edited_is : (m : Stored) (s e : ℤ) (new : Option ℕ) → well_formed kind places m ≡ true → edit kind m s e new ≡ edit_sound kind places m s e new
  unfolding edit
  edited_is m s e new w = rw w

  -- what an edit leaves that is not refused
  pub record Left (m : Stored) (s e : ℤ) (new : Option ℕ) (o : Edited) : Type 0 where
    pub real : rank s < kind.past e
    pub stores : o.left ≡ storing kind places (ranges kind o.left)
    pub holds : ranges kind o.left ≡ given (rank s) (kind.past e) new (ranges kind m)
    pub lent : LentMap kind o.left

  pub left : (m : Stored) (s e : ℤ) (new : Option ℕ) → well_formed kind places m ≡ true → (edit kind m s e new).answer ≡ 0
      → Left m s e new (edit kind m s e new)
  left m s e new w z =
      let is = edited_is m s e new w in
      let t = (formed kind places m w).tidy in
      let d = edit_accepted kind places m s e new (sym (ap (λ (o : Edited). o.answer) is) ∙ z) in
      let r = edit_ranges kind law places m t s e new d in
      rw is (record {
        real = d.real;
        stores = d.left_is ∙ ap (storing kind places) (sym r);
        holds = r;
        lent = record { sound = edit_sound_lem kind law places m t s e new d; full_size = edit_length kind law places m t s e new d };
      })

  pub well : (m : Stored) → LentMap kind m → well_formed kind places m ≡ true
  well m l = subst (λ (n : ℕ). well_formed kind n m ≡ true) l.full_size l.sound.well

  -- EDITS in order
  pub run_equal : (m : Stored) (cs : List Change) → LentMap kind m → edits kind m cs ≡ rust_run kind rust m cs
  unfolding edits rust_run
  run_equal m [] l = refl
  run_equal m (c ∷ cs) l =
      let w = well m l in
      let one = edit kind m c.start c.end c.new in
      go one (rust_run kind rust one.left cs) (rw (sym (edit_equal m c.start c.end c.new w)))
      (λ z. run_equal one.left cs (left m c.start c.end c.new w z).lent)
    where
      go : (one : Edited) (r : Edited) → cond (eqb one.answer 0) r one ≡ rust_run kind rust m (c ∷ cs) → (one.answer ≡ 0 → edits kind one.left cs ≡ r)
          → cond (eqb one.answer 0) (edits kind one.left cs) one ≡ rust_run kind rust m (c ∷ cs)
      go one r e f = step (eqb one.answer 0) refl ∙ e
        where
          step : (t : Bool) → eqb one.answer 0 ≡ t → cond t (edits kind one.left cs) one ≡ cond t r one
          step true h = f (eqb-true one.answer 0 h)
          step false h = refl

  -- HISTORIES: edits of which none is refused
  pub by_changes : (cs : List Change) → By keys (span_edits kind cs)
  unfolding span_edits
  by_changes [] = tt
  by_changes (c ∷ cs) = (ends_by c.end, by_changes cs)

  record Ran (m : Stored) (cs : List Change) (o : Edited) : Type 0 where
    real : Real (span_edits kind cs)
    holds : ranges kind o.left ≡ history (span_edits kind cs) (ranges kind m)
    stores : m ≡ storing kind places (ranges kind m) → o.left ≡ storing kind places (ranges kind o.left)
    lent : LentMap kind o.left

  ran : (m : Stored) (cs : List Change) → LentMap kind m → (edits kind m cs).answer ≡ 0 → Ran m cs (edits kind m cs)
  unfolding edits span_edits history
  ran m [] l z = record { real = tt; holds = refl; stores = λ e. e; lent = l }
  ran m (c ∷ cs) l z =
      let one = edit kind m c.start c.end c.new in
      let (zero_is, rest) = none_refused one (edits kind one.left cs) z in
      let f = left m c.start c.end c.new (well m l) zero_is in
      let r = ran one.left cs f.lent rest in
      rw (eq-eqb one.answer 0 zero_is) (record {
        real = (f.real, r.real);
        holds = r.holds ∙ ap (history (span_edits kind cs)) f.holds;
        stores = λ e. r.stores f.stores;
        lent = r.lent;
      })

  -- what the Rust holds after the same calls
  rust_holds : (m : Stored) (cs : List Change) → LentMap kind m → Ran m cs (edits kind m cs)
      → rust.history (span_edits kind cs) (ranges kind m) ≡ some (ranges kind (edits kind m cs).left)
  rust_holds m cs l r = same.history_same (span_edits kind cs) (ranges kind m) r.real (by_changes cs) (kept m (well m l)) ∙ ap some (sym r.holds)

  -- a new map is one as it is lent
  lent_cleared : LentMap kind (clear kind)
  unfolding clear
  lent_cleared = record {
    sound = sound_storing kind law places [] nothing.tidy tt (omega arith);
    full_size = length_storing kind law places [] nothing.tidy tt (omega arith);
  }

  stores_cleared : clear kind ≡ storing kind places (ranges kind (clear kind))
  unfolding clear
  stores_cleared = ap (storing kind places) (sym (ranges_cleared kind law))

  pub history_equal : (cs : List Change) → (edits kind (clear kind) cs).answer ≡ 0 → SameHistory kind rust cs
  history_equal cs z =
      let r = ran (clear kind) cs lent_cleared z in
      record {
        btm = ranges kind (edits kind (clear kind) cs).left;
        holds = ap (rust.history (span_edits kind cs)) (sym (ranges_cleared kind law)) ∙ rust_holds (clear kind) cs lent_cleared r;
        stores = r.stores stores_cleared;
        lent = r.lent;
      }

  -- SETS: edits that give 0 or none keep all values 0
  plain_given : (lo hi : ℕ) (new : Option ℕ) (m : List Span) → lo < hi → Ordered 0 m → ((v : ℕ) → new ≡ some v → v ≡ 0) → Plain m → Plain (given lo hi new m)
  plain_given lo hi new m h o z p = plain_at 0 (given lo hi new m) (tidy_given lo hi new m h o).ordered
      (λ k v e. held k v (sym (at_given lo hi new m h o k) ∙ e))
    where
      held : (k v : ℕ) → cond (inside lo hi k) new (at m k) ≡ some v → v ≡ 0
      held k v = go (inside lo hi k)
        where
          go : (t : Bool) → cond t new (at m k) ≡ some v → v ≡ 0
          go true e = z v e
          go false e = at_zero m k v p e

  plain_ran : (m : Stored) (cs : List Change) → LentMap kind m → OfSet cs → Plain (ranges kind m) → (edits kind m cs).answer ≡ 0
      → Plain (ranges kind (edits kind m cs).left)
  unfolding edits
  plain_ran m [] l s p z = p
  plain_ran m (c ∷ cs) l s p z =
      let one = edit kind m c.start c.end c.new in
      let (zero_is, rest) = none_refused one (edits kind one.left cs) z in
      let f = left m c.start c.end c.new (well m l) zero_is in
      let q = plain_given (rank c.start) (kind.past c.end) c.new (ranges kind m) f.real (kept m (well m l)).tidy.ordered s.0 p in
      rw (eq-eqb one.answer 0 zero_is) (plain_ran one.left cs f.lent s.1 (rw f.holds q) rest)

  pub sets_stay : (cs : List Change) → OfSet cs → (edits kind (clear kind) cs).answer ≡ 0 → SoundSet kind (edits kind (clear kind) cs).left
  sets_stay cs s z =
      let h = history_equal cs z in
      let none-held : Plain (ranges kind (clear kind)) = rw (ranges_cleared kind law) tt in
      let p = plain_ran (clear kind) cs lent_cleared s none-held z in
      let is = (ran (clear kind) cs lent_cleared z).stores stores_cleared in
      record { sound = h.lent.sound; plain_too = ap plain is ∙ plain_storing kind places (ranges kind (edits kind (clear kind) cs).left) p }

  -- BULK INSERT: extend by entries is a history of single inserts
  pub extend_changes : (es : List Entry) (xs : List Span) → rust.extend (entry_spans kind es) xs ≡ rust.history (span_edits kind (map entry_change es)) xs
  extend_changes es xs = same.extend_same (entry_spans kind es) xs ∙ ap (λ (fs : List Edit). rust.history fs xs) (sym (changes_puts kind es))

  pub extend_equal : (m : Stored) (es : List Entry) → LentMap kind m
      → rust.extend (applied kind m es) (ranges kind m) ≡ some (ranges kind (bulk_insert_sound kind m 0 es).left)
  extend_equal m es l =
      let fs = take (bulk_insert_sound kind m 0 es).told.applied es in
      let is : edits kind m (map entry_change fs) ≡ leaving done (bulk_insert_sound kind m 0 es).left = bulk_singles kind law m es l.sound l.full_size in
      extend_changes fs (ranges kind m)
      ∙ rust_holds m (map entry_change fs) l (ran m (map entry_change fs) l (ap (λ (o : Edited). o.answer) is))
      ∙ ap (λ (o : Edited). some (ranges kind o.left)) is

  -- QUESTIONS of a map
  module _ (m : Stored) (l : LentMap kind m) where
    abbrev xs : List Span
    xs = ranges kind m

    is_kept : Kept keys xs
    is_kept = kept m (well m l)

    count_is : length xs ≡ m.count
    count_is = length_ranges kind (length m.starts) m (shape l.sound) (sound_held kind m l.sound)

    -- the entry at a place
    placed_nth : (i : ℕ) → range_at_sound m i ≡ rust_found kind (nth i xs)
    unfolding range_at_sound
    placed_nth i = elim (dec_lt i m.count) [
      | yes h ↦
          let at_place = get_or_ranges kind (length m.starts) m (shape l.sound) (sound_held kind m l.sound) i (span 0 0 0) h in
          rw (
            lt-ltb i m.count h,
            nth_here i xs (span 0 0 0) (omega (arith, count_is)),
            at_place,
            key_at_rank (l.sound.starts_fit i),
            law.back (l.sound.ends_fit i),
          )
      | no h ↦ rw (le-ltb i m.count (omega arith), nth_past i xs (omega (arith, count_is)))
    ]

    iter_equal : (i : ℕ) → range_at kind m i ≡ rust_found kind (nth i xs)
    unfolding range_at
    iter_equal i = rw (well m l) (placed_nth i)

    last_equal : range_at kind m (m.count - 1) ≡ rust_found kind (next_back xs)
    last_equal = iter_equal (m.count - 1) ∙ ap (λ (i : ℕ). rust_found kind (nth (i - 1) xs)) (sym count_is) ∙ ap (rust_found kind) (nth_last xs)

    get_equal : (k : ℤ) → lookup kind m k ≡ rust_found kind (rust.get_key_value (rank k) xs)
    unfolding lookup lookup_sound
    get_equal k = rw (well m l) (placed_nth (first_place (holds (rank k)) xs)
        ∙ ap (rust_found kind) (sym (same.get_same (rank k) xs is_kept ∙ nth_first (holds (rank k)) xs)))

    contains_equal : (k : ℤ) → contains kind m k ≡ yes_no (rust.contains_key (rank k) xs)
    unfolding contains contains_sound
    contains_equal k = rw (well m l, same.contains_same (rank k) xs is_kept)

    module _ (s e : ℤ) (real : rank s < kind.past e) where
      abbrev q : Span
      q = span (rank s) (kind.past e) 0

      overlaps_equal : overlaps kind m s e ≡ yes_no (rust.overlaps (rank s) (kind.past e) xs)
      unfolding overlaps overlaps_sound
      overlaps_equal = rw (well m l, lt-leb (kind.past e) (rank s) real, same.overlaps_same (rank s) (kind.past e) xs (ends_from e) is_kept)

      overlapping_equal : PartGiven xs (overlapping kind m s e) (rust.overlapping (rank s) (kind.past e) xs)
      unfolding overlapping overlapping_sound
      overlapping_equal = rw (well m l, lt-leb (kind.past e) (rank s) real, same.overlapping_same (rank s) (kind.past e) xs (ends_from e) is_kept)
          (part_gives (rank s) (kind.past e) 0 xs real is_kept.tidy.ordered)

      gaps_equal : (starts ends : List ℤ) → ListGiven kind (rust.gaps (rank s) (kind.past e) xs) starts ends (gaps kind m s e starts ends)
      unfolding gaps gaps_sound
      gaps_equal starts ends = record {
        list = uncovered (rank s) (kind.past e) xs;
        gave = same.gaps_same (rank s) (kind.past e) xs real (ends_by e) is_kept;
        same = rw (well m l, lt-leb (kind.past e) (rank s) real);
      }

    len_equal : count_of kind m ≡ Ok (length xs)
    unfolding count_of
    len_equal = rw (well m l, count_is)

    empty_equal : is_empty kind m ≡ yes_no (eqb (length xs) 0)
    unfolding is_empty
    empty_equal = rw (well m l, count_is)

    pub questions_equal : SameAnswers kind rust m
    questions_equal = record {
      len = len_equal;
      is_empty_lem = empty_equal;
      iter = iter_equal;
      first = iter_equal 0 ∙ ap (rust_found kind) (nth_zero xs);
      last = last_equal;
      get_key_value = get_equal;
      contains_key = contains_equal;
      overlaps = overlaps_equal;
      overlapping = overlapping_equal;
      gaps = gaps_equal;
    }

  -- of two maps
  pub order_equal : (a b : Stored) → LentMap kind a → LentMap kind b → SameOrder kind rust a b
  order_equal a b l w = record {
    eq = unfold equal in unfold order_sound in
        rw (well a l, well b w, same.eq_same (ranges kind a) (ranges kind b) (is_kept a l) (is_kept b w));
    cmp = unfold order in unfold order_sound in
        rw (well a l, well b w, same.cmp_same (ranges kind a) (ranges kind b) (is_kept a l) (is_kept b w));
  }

  -- of two sets
  kept_set : (m : Stored) → SoundSet kind m → LentMap kind m → KeptSet keys (ranges kind m)
  kept_set m s l =
      let k = is_kept m l in
      record {
        tidy = k.tidy;
        upto = k.upto;
        spaced = tidy_spaced 0 (ranges kind m) k.tidy.ordered k.tidy.separate (plain_ranges kind m s.plain_too);
      }

  pub sets_equal : (a b : Stored) → SoundSet kind a → SoundSet kind b → LentMap kind a → LentMap kind b → SameOfSets kind rust a b
  sets_equal a b s t l w = record {
    union = λ starts ends. record {
      list = united (ranges kind a) (ranges kind b);
      gave = same.union_same (ranges kind a) (ranges kind b) (kept_set a s l) (kept_set b t w);
      same = unfold union in unfold union_sound in rw (well a l, well b w, s.plain_too, t.plain_too);
    };
    intersection = λ starts ends. record {
      list = common (ranges kind a) (ranges kind b);
      gave = same.intersection_same (ranges kind a) (ranges kind b) (kept_set a s l) (kept_set b t w);
      same = unfold intersection in unfold intersection_sound in rw (well a l, well b w, s.plain_too, t.plain_too);
    };
  }

  pub equal_to_the_rust : EqualToTheRust kind rust
  equal_to_the_rust = record {
    relations = relations_equal;
    every_edit = run_equal;
    histories = history_equal;
    set_histories = sets_stay;
    questions = questions_equal;
    order = order_equal;
    sets = sets_equal;
    extend = extend_equal;
  }

-- RangeMap and RangeSet
pub half_open_equal : EqualToTheRust half_open half_open_rust
half_open_equal = equal_to_the_rust half_open half_open_rust half_open_map

-- RangeInclusiveMap and RangeInclusiveSet, with i64's steps in a build that checks, where a call of add_one at the greatest key would be a panic
pub inclusive_equal_checked : EqualToTheRust inclusive (inclusive_rust add_one_checked sub_one_checked)
inclusive_equal_checked = equal_to_the_rust inclusive (inclusive_rust add_one_checked sub_one_checked) (inclusive_map add_one_checked sub_one_checked checked)

-- and in one that does not
pub inclusive_equal_wrapping : EqualToTheRust inclusive (inclusive_rust add_one_wrapping sub_one_wrapping)
inclusive_equal_wrapping = equal_to_the_rust inclusive (inclusive_rust add_one_wrapping sub_one_wrapping) (inclusive_map add_one_wrapping sub_one_wrapping wrapping)
