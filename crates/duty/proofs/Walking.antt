-- The walk over the places that meet the window: what its tables have, what is still to be counted; and these places are all that counts.
use Prim.Native.Nat.{ℕ, zero, suc, ◌+◌, ◌-◌, ◌≤◌, ◌<◌, min, max}
use native.Mathlib.Omega.{arith}
use native.Mathlib.Decide.{dec_lt}
use mathlib.Core.Path.{◌≡◌, refl, sym, ap, ◌∙◌}
use mathlib.Core.Bool.{Bool, true, false, ◌||◌, not, cond}
use mathlib.Core.List.{List, [], ◌∷◌}
use Rattle.std.specs.Prelude.{Result, Ok, Err, Some, None, ok_or}
use borrow.Author.Tests.{eq-eqb, eqb-true, eqb-false, not-false}
use lib.Dec.{eqb}
use lib.ListN.{length, get_or, set, take, drop, length-set, take-append-drop, drop_of_length-le}
use lib.Seq.{drop-cons, get_or-set_same, get_or-set_other, length-take-le, get_or-take, take-take}
use lib.IntN.{ℤ, pos}
use Rattle.answers.specs.declared.Refusal.{Refusal}
use Rattle.answers.specs.declared.Refusal.TheVariants.{BadStatus}
use Rattle.span.specs.Span.{Span, span, Ordered, Upto}
use Rattle.span.specs.Labels.{equals}
use Rattle.span.specs.Operations.{within}
use Rattle.span.proofs.Holding.{ordered_right}
use Rattle.span.proofs.Tests.{neither}
use Rattle.span.proofs.Total.{those_most}
use Rattle.key.specs.Rank.{rank}
use Rattle.key.specs.Range.{half_open}
use Rattle.key.specs.declared.Bounds.{Bounds}
use Rattle.key.proofs.Lawful.{half_open_lawful}
use Rattle.outcomes.specs.Stored.{spans, ranges, Sound}
use Rattle.outcomes.specs.declared.Stored.{Stored}
use Rattle.outcomes.proofs.Formed.{shape, good, length_spans, get_or_spans, length_ranges, get_or_ranges}
use Rattle.outcomes.proofs.Storing.{all_same}
use Rattle.store.specs.InnerCheck.{Steps}
use Rattle.store.specs.InnerSearch.{Reached, FirstPast}
use Rattle.store.proofs.Checked.{formed_steps}
use Rattle.store.proofs.Seeking.{reached_after, ends_ascend}
use Rattle.duty.specs.Duty.{is_off_duty, is_sleeper_berth, is_driving, is_on_duty, is_status, seconds_of, unrecorded_of, strange, totals_of, tally_sound}
use Rattle.duty.specs.InnerWalk.{u32_limit, table_length, sum_over, gathered_of, gathering, tally_sum, completing, tally_of, walk_finds}
use Rattle.duty.specs.InnerCounting.{Statuses, part, Met, EachApart, Inside, no_seconds, credited, seconds_in, TableRoom, Added}
use Rattle.duty.specs.declared.Tally.{Tally}
use Rattle.duty.proofs.Laws.{seconds_cons, seconds_alike, seconds_none, strange_cons, strange_alike, strange_none}
use Rattle.duty.proofs.Laws.{within_ended, within_past, within_front}
use Rattle.duty.proofs.ByStatus.{past_table, status_upto, sum_same, seconds_by_status}
use Rattle.duty.proofs.Instants.{within_sum}
use Rattle.duty.proofs.Sums.{duties_sum}

-- the totals of a table are those of its statuses
same_tally : {a b c d a' b' c' d' : ℕ} → a ≡ a' → b ≡ b' → c ≡ c' → d ≡ d'
    → ◌≡◌ {A = Tally} (record { off_duty = a; sleeper_berth = b; driving = c; on_duty = d })
    (record { off_duty = a'; sleeper_berth = b'; driving = c'; on_duty = d' })
same_tally p q r s = rw (p, q, r, s)

pub gathering_is : (t : List ℕ) → record { off_duty = get_or t 1 0; sleeper_berth = get_or t 2 0; driving = get_or t 3 0; on_duty = get_or t 4 0 } ≡ gathering t
unfolding gathering sum_over is_off_duty is_sleeper_berth is_driving is_on_duty
gathering_is t = same_tally (omega arith) (omega arith) (omega arith) (omega arith)

pub completing_is : (t : Tally) (n : ℕ)
    → record {
      off_duty = t.off_duty;
      sleeper_berth = t.sleeper_berth;
      driving = t.driving;
      on_duty = t.on_duty;
      unrecorded = n - tally_sum t;
    } ≡ completing t n
unfolding completing
completing_is t n = refl

-- the statuses that pass a test have no more seconds than the window
seconds_most : (p : ℕ → Bool) (lo hi : ℕ) (m : List Span) → lo < hi → Ordered 0 m → seconds_of p lo hi m ≤ hi - lo
unfolding seconds_of
seconds_most p lo hi m h o = omega (arith, those_most p (within lo hi m), within_sum lo hi m h o)

upto_take : (c p : ℕ) (d : Span) (xs : List Span) → ((j : ℕ) → j < p → j < length xs → (get_or xs j d).hi ≤ c) → Upto c (take p xs)
upto_take c zero d xs f = tt
upto_take c (suc p) d [] f = tt
upto_take c (suc p) d (x ∷ xs) f = (f 0 (omega arith) (omega arith), upto_take c p d xs (λ j i b. f (suc j) (omega arith) (omega arith)))

-- A TABLE: of no seconds
pub empty_has : (d : ℕ) → get_or no_seconds d 0 ≡ 0
empty_has d = all_same 0 table_length d

pub nothing_added : {s : ℕ} (d : ℕ) → s ≡ 0 → get_or no_seconds d 0 ≡ get_or no_seconds d 0 + s
nothing_added d e = omega arith

-- with more of one status
credited_has : (t : List ℕ) (v d n : ℕ) → v < length t → get_or (credited t v n) d 0 ≡ get_or t d 0 + cond (eqb v d) n 0
credited_has t v d n h = go (eqb v d) refl
  where
    go : (b : Bool) → eqb v d ≡ b → get_or (set t v (get_or t v 0 + n)) d 0 ≡ get_or t d 0 + cond b n 0
    go true e = let same : v ≡ d = eqb-true v d e in rw (← same) (get_or-set_same t v (get_or t v 0 + n) 0 h)
    go false e = let other = get_or-set_other t v d (get_or t v 0 + n) 0 (λ z. eqb-false v d e (sym z)) in omega arith

-- PLACE BY PLACE
abbrev pub at_place : Stored → ℕ → Span
at_place m k = span (rank (get_or m.starts k (pos 0))) (rank (get_or m.ends k (pos 0))) (get_or m.values k 0)

-- a strange status is in the window
abbrev strange_in : Bounds → List Span → Bool
strange_in window xs = strange (rank window.start) (rank window.end) xs

-- the places from a up to b meet the window
module _ {m : Stored} {window : Bounds} {a b : ℕ} (meets : Met m window a b) where
  -- the seconds of one of them
  abbrev secs : ℕ → ℕ
  secs k = min (rank (get_or m.ends k (pos 0))) (rank window.end) - max (rank (get_or m.starts k (pos 0))) (rank window.start)

  size : length (take b (spans half_open m.starts m.ends m.values)) ≡ b
  size = length-take-le b (spans half_open m.starts m.ends m.values) (omega (arith, meets.starts_hold, length_spans half_open m.starts m.ends m.values meets.ends_as meets.values_as))

  cons : (k : ℕ) → k < b → part m k b ≡ at_place m k ∷ part m (k + 1) b
  cons k i =
      let l = spans half_open m.starts m.ends m.values in
      let next : suc k ≡ k + 1 = omega arith in
      drop-cons (take b l) k (span 0 0 0) (omega (arith, size))
      ∙ ap (λ (n : ℕ). get_or (take b l) k (span 0 0 0) ∷ drop n (take b l)) next
      ∙ ap (λ (x : Span). x ∷ drop (k + 1) (take b l))
      (get_or-take b l k (span 0 0 0) i ∙ get_or_spans half_open m.starts m.ends m.values k (span 0 0 0) meets.ends_as meets.values_as (omega (arith, meets.starts_hold)))

  nil : (k : ℕ) → b ≤ k → part m k b ≡ []
  nil k i = drop_of_length-le (take b (spans half_open m.starts m.ends m.values)) {i = k} (omega (arith, size))

  seconds_step : (s k : ℕ) → k < b
      → seconds_in window s (part m k b) ≡ cond (equals s (get_or m.values k 0)) (secs k) 0 + seconds_in window s (part m (k + 1) b)
  seconds_step s k i = ap (seconds_in window s) (cons k i) ∙ seconds_cons (equals s) _ _ (at_place m k) (part m (k + 1) b)

  pub seconds_end : (s k : ℕ) → b ≤ k → seconds_in window s (part m k b) ≡ 0
  seconds_end s k i = ap (seconds_in window s) (nil k i) ∙ seconds_none (equals s) _ _

  strange_step : (k : ℕ) → a ≤ k → k < b → strange_in window (part m k b) ≡ (not (is_status (get_or m.values k 0)) || strange_in window (part m (k + 1) b))
  strange_step k h i = ap (strange_in window) (cons k i) ∙ strange_cons _ _ (at_place m k) (part m (k + 1) b) (meets.meet k h i)

  -- fewer places
  pub fewer : (p q : ℕ) → a ≤ p → p ≤ q → q ≤ b → Met m window p q
  fewer p q h i j = record {
    order = i;
    starts_hold = omega (arith, meets.starts_hold);
    ends_as = meets.ends_as;
    values_as = meets.values_as;
    short = meets.short;
    meet = λ k x y. meets.meet k (omega arith) (omega arith);
  }

  -- one that ends by the start of the next, which is there too, where none begins before the window: its seconds are its length, which a u32 holds
  pub whole_secs : EachApart m a b → Inside m window a b → (k : ℕ) → a ≤ k → k + 1 < b
      → rank (get_or m.ends k (pos 0)) - rank (get_or m.starts k (pos 0)) ≡ secs k
  whole_secs apart inside k h i = omega (arith, meets.meet (k + 1) (omega arith) i, apart k h i, inside k h (omega arith))

  pub whole_fits : EachApart m a b → Inside m window a b → (k : ℕ) → a ≤ k → k + 1 < b
      → (rank (get_or m.starts k (pos 0)) ≤ rank (get_or m.ends k (pos 0))) × (rank (get_or m.ends k (pos 0)) - rank (get_or m.starts k (pos 0)) < u32_limit)
  whole_fits apart inside k h i =
      let e = meets.meet k h (omega arith) in
      (omega arith, omega (arith, meets.meet (k + 1) (omega arith) i, apart k h i, inside k h (omega arith), meets.short))

  -- all but the first begin in the window
  pub second_inside : EachApart m a b → Inside m window (a + 1) b
  second_inside apart zero h i = absurd (omega arith)
  second_inside apart (suc k) h i =
      let e : suc k ≡ k + 1 = omega arith in
      rw e (omega (arith, meets.meet k (omega arith) (omega arith), apart k (omega arith) (omega arith)))

  -- STATUSES: no strange one is there exactly where all are statuses
  calm_from : (n k : ℕ) → k + n ≡ b → a ≤ k → Statuses m.values a b → strange_in window (part m k b) ≡ false
  calm_from zero k e h s = ap (strange_in window) (nil k (omega arith)) ∙ strange_none _ _
  calm_from (suc n) k e h s =
      let rest = calm_from n (k + 1) (omega arith) (omega arith) s in
      strange_step k h (omega arith) ∙ rw (s k (omega arith) h) rest

  pub calm : Statuses m.values a b → strange_in window (part m a b) ≡ false
  calm s = calm_from (b - a) a (omega (arith, meets.order)) (omega arith) s

  calm_status : (n k : ℕ) → k + n ≡ b → a ≤ k → strange_in window (part m k b) ≡ false → Statuses m.values k b
  calm_status zero k e h s = λ j i g. absurd (omega arith)
  calm_status (suc n) k e h s =
      let both = neither (not (is_status (get_or m.values k 0))) (strange_in window (part m (k + 1) b)) (sym (strange_step k h (omega arith)) ∙ s) in
      let rest = calm_status n (k + 1) (omega arith) (omega arith) both.1 in
      λ j i g. elim (dec_lt k j) [
        | yes p ↦ rest j i (omega arith)
        | no p ↦ let same : j ≡ k = omega arith in rw same (not-false _ both.0)
      ]

  pub strange_there : (Statuses m.values a b → ⊥) → strange_in window (part m a b) ≡ true
  strange_there f = go (strange_in window (part m a b)) refl
    where
      go : (t : Bool) → strange_in window (part m a b) ≡ t → t ≡ true
      go true e = refl
      go false e = absurd (f (calm_status (b - a) a (omega (arith, meets.order)) (omega arith) e))

-- the first of them, and the others
pub seconds_first : {m : Stored} {window : Bounds} {a b : ℕ} (meets : Met m window a b) (s : ℕ) → a < b
    → seconds_in window s (part m a (a + 1)) + seconds_in window s (part m (a + 1) b)
    ≡ seconds_in window s (part m a b)
seconds_first {a = a} meets s h =
    let n = fewer meets a (a + 1) (omega arith) (omega arith) (omega arith) in
    omega (arith, seconds_step meets s a h, seconds_step n s a (omega arith), seconds_end n s (a + 1) (omega arith))

-- WHAT IS COUNTED of the places from a up to b in the tables t and u, up to place k: with what is left of them it is w, which a u32 holds
pub record Going (m : Stored) (window : Bounds) (a b : ℕ) (w : ℕ → ℕ) (t u : List ℕ) (k : ℕ) : Type 0 where
  pub past : a ≤ k
  pub within : k ≤ b
  pub long : length t ≡ table_length
  pub sums : (s : ℕ) → get_or t s 0 + get_or u s 0 + seconds_in window s (part m k b) ≡ w s

pub going_turned : {m : Stored} {window : Bounds} {a b : ℕ} {w : ℕ → ℕ} {t u : List ℕ} {k : ℕ} → length u ≡ table_length
    → Going m window a b w t u k → Going m window a b w u t k
going_turned l g = record { past = g.past; within = g.within; long = l; sums = λ d. omega (arith, g.sums d) }

module _ {m : Stored} {window : Bounds} {a b : ℕ} (meets : Met m window a b) (s : Statuses m.values a b)
    {w : ℕ → ℕ} (room : (d : ℕ) → w d < u32_limit) {t u : List ℕ} {k : ℕ} (g : Going m window a b w t u k) where
  pub going_end : b ≤ k → (d : ℕ) → get_or t d 0 + get_or u d 0 ≡ w d
  going_end h d = omega (arith, g.sums d, seconds_end meets d k h)

  module _ (i : k < b) where
    pub going_status : get_or m.values k 0 < table_length
    going_status = omega (arith, status_upto (get_or m.values k 0) (s k i g.past))

    -- n is what the code adds, and t' the table that it leaves
    pub going_room : {n : ℕ} → n ≡ secs meets k → get_or t (get_or m.values k 0) 0 + n < u32_limit
    going_room e =
        let own = rw (eq-eqb (get_or m.values k 0) (get_or m.values k 0) refl) at (seconds_step meets (get_or m.values k 0) k i) in
        omega (arith, e, own, g.sums (get_or m.values k 0), room (get_or m.values k 0))

    pub going_on : {t' : List ℕ} {n : ℕ} → n ≡ secs meets k → t' ≡ credited t (get_or m.values k 0) n → Going m window a b w t' u (k + 1)
    going_on {t'} {n} e q =
        rw q
        (record {
          past = omega (arith, g.past);
          within = omega arith;
          long = length-set t (get_or m.values k 0) (get_or t (get_or m.values k 0) 0 + n) ∙ g.long;
          sums = λ d. omega (arith, credited_has t (get_or m.values k 0) d n (omega (arith, going_status, g.long)), rw (sym e) at (seconds_step meets d k i), g.sums d);
        })

-- THE WINDOW of a sound map: the places from the first that ends past lo up to the first that begins from hi on
module _ {m : Stored} (sound : Sound half_open m) {from to : ℕ} {start end : ℤ} (first : Reached half_open m.count m.ends start from)
    (next : FirstPast half_open m.count m.starts from end to) (real : rank start < rank end) (short : rank end - rank start < u32_limit) where
  abbrev lo : ℕ
  lo = rank start

  abbrev hi : ℕ
  hi = rank end

  abbrev window : Bounds
  window = record { start = start; end = end }

  abbrev xs : List Span
  xs = ranges half_open m

  steps : Steps half_open m
  steps = formed_steps half_open (shape sound) (good sound)

  pub met : Met m window from to
  met = record {
    order = next.from;
    starts_hold = omega (arith, next.within, (good sound).held);
    ends_as = sound.ends_as;
    values_as = sound.values_as;
    short = short;
    meet = λ k h i.
        let e = reached_after half_open_lawful (ends_ascend half_open half_open_lawful (shape sound) (good sound)) first k h (omega (arith, next.within)) in
        omega (arith, e, next.before k i h, (steps k (omega (arith, next.within))).full);
  }

  pub apart : EachApart m from to
  apart k h i = (steps k (omega (arith, next.within))).past (omega (arith, next.within))

  abbrev met_part : List Span
  met_part = part m from to

  long : length xs ≡ m.count
  long = length_ranges half_open (length m.starts) m (shape sound) (good sound).held

  -- what stands before the part ends before the window, and what stands after it begins past the window
  ended : Upto lo (take from xs)
  ended = upto_take lo from (span 0 0 0) xs (λ j i b.
      let e = ap (λ (x : Span). x.hi) (get_or_ranges half_open (length m.starts) m (shape sound) (good sound).held j (span 0 0 0) (omega (arith, long))) in
      omega (arith, e, first.below j i))

  ordered_drop : Ordered 0 (drop to xs)
  ordered_drop = ordered_right 0 (take to xs) (drop to xs) (rw (take-append-drop to xs) (good sound).tidy.ordered)

  past : within lo hi (drop to xs) ≡ []
  past = elim (dec_lt to m.count) [
    | yes i ↦
        let split : drop to xs ≡ get_or xs to (span 0 0 0) ∷ drop (suc to) xs = drop-cons xs to (span 0 0 0) (omega (arith, long)) in
        let e = ap (λ (x : Span). x.lo) (get_or_ranges half_open (length m.starts) m (shape sound) (good sound).held to (span 0 0 0) i) in
        let o = rw split at ordered_drop in
        rw split (within_past lo hi hi _ (omega arith) (omega (arith, e, next.at i), o.1, o.2))
    | no i ↦ rw (drop_of_length-le xs {i = to} (omega (arith, long))) (within_past lo hi hi [] (omega arith) tt)
  ]

  -- in the window lies what lies there of the part
  alike : within lo hi xs ≡ within lo hi met_part
  unfolding ranges
  alike =
      let l = spans half_open m.starts m.ends m.values in
      let back : take to xs ≡ take to l = take-take to m.count l next.within in
      let front : take from (take to xs) ≡ take from xs = take-take from to xs next.from in
      ap (within lo hi) (sym (take-append-drop to xs))
      ∙ within_front lo hi (take to xs) (drop to xs) past
      ∙ ap (within lo hi) (sym (take-append-drop from (take to xs)))
      ∙ within_ended lo hi (take from (take to xs)) (drop from (take to xs)) (rw front ended)
      ∙ ap (λ (n : List Span). within lo hi (drop from n)) back

  pub table_room : TableRoom window met_part no_seconds
  table_room s = omega (arith, empty_has s, seconds_alike (equals s) lo hi xs met_part alike, seconds_most (equals s) lo hi xs real (good sound).tidy.ordered)

  -- what the table has of the statuses that pass a test
  table_of_test : (t : List ℕ) (p : ℕ → Bool) → ((v : ℕ) → table_length ≤ v → p v ≡ false) → Added window met_part no_seconds t
      → gathered_of p t ≡ seconds_of p lo hi xs
  table_of_test t p bound h =
      sum_same p (λ (s : ℕ). get_or t s 0) (λ (s : ℕ). seconds_of (equals s) lo hi xs) table_length
      (λ s. omega (arith, h s, empty_has s, seconds_alike (equals s) lo hi xs met_part alike))
      ∙ seconds_by_status p table_length bound lo hi xs

  pub table_is : (t : List ℕ) → Statuses m.values from to → Added window met_part no_seconds t → Some (gathering t) ≡ walk_finds lo hi xs
  unfolding walk_finds tally_of gathering
  table_is t s h =
      let e : strange lo hi xs ≡ false = strange_alike lo hi xs met_part alike ∙ calm met s in
      rw e
      (ap Some
      (same_tally
      (table_of_test t is_off_duty (λ v i. (past_table v i).off) h)
      (table_of_test t is_sleeper_berth (λ v i. (past_table v i).berth) h)
      (table_of_test t is_driving (λ v i. (past_table v i).drives) h)
      (table_of_test t is_on_duty (λ v i. (past_table v i).on) h)))

  pub strange_is : (Statuses m.values from to → ⊥) → None ≡ walk_finds lo hi xs
  unfolding walk_finds
  strange_is f = let e : strange lo hi xs ≡ true = strange_alike lo hi xs met_part alike ∙ strange_there met f in rw e

-- THE DOOR: of what the walk finds, what is answered
module _ (m : Stored) (s e : ℤ) where
  abbrev all : List Span
  all = ranges half_open m

  abbrev found : Result Tally Refusal
  found = ok_or (walk_finds (rank s) (rank e) all) BadStatus

  pub found_strange : {why : Refusal} → Err why ≡ found → Err why ≡ tally_sound m s e
  unfolding walk_finds tally_sound
  found_strange {why} w = go (strange (rank s) (rank e) all) w
    where
      go : (t : Bool) → Err why ≡ ok_or (cond t None (Some (tally_of (rank s) (rank e) all))) BadStatus
          → Err why ≡ cond t (Err BadStatus) (Ok (totals_of (rank s) (rank e) all))
      go true w = cc
      go false w = cc

  -- no strange status is there, and these are the seconds
  pub record Found (t : Tally) : Type 0 where
    pub calm : strange (rank s) (rank e) all ≡ false
    pub tally_is : t ≡ tally_of (rank s) (rank e) all

  pub found_counted : {t : Tally} → Ok t ≡ found → Found t
  unfolding walk_finds
  found_counted {t} w = go (strange (rank s) (rank e) all) refl w
    where
      go : (b : Bool) → strange (rank s) (rank e) all ≡ b → Ok t ≡ ok_or (cond b None (Some (tally_of (rank s) (rank e) all))) BadStatus → Found t
      go true c w = let z : ◌≡◌ {A = ℕ} 0 1 = cc in absurd (omega arith)
      go false c w = record { calm = c; tally_is = cc }

  module _ (sound : Sound half_open m) (real : rank s < rank e) {t : Tally} (f : Found t) where
    pub counted_room : tally_sum t ≤ rank e - rank s
    unfolding tally_of
    counted_room = rw f.tally_is (omega (arith, duties_sum (rank s) (rank e) all real (good sound).tidy.ordered f.calm))

    pub counted_is : Ok (completing t (rank e - rank s)) ≡ tally_sound m s e
    unfolding tally_sound completing totals_of tally_of
    counted_is =
        let left : rank e - rank s - tally_sum (tally_of (rank s) (rank e) all) ≡ unrecorded_of (rank s) (rank e) all =
        omega (arith, duties_sum (rank s) (rank e) all real (good sound).tidy.ordered f.calm) in
        rw (f.calm, f.tally_is, left)
