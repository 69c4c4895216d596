-- The walk, one step at a time: the range that starts first is taken. It makes the open range longer, or becomes the open one.
use Prim.Native.Nat.{ℕ, suc, ◌+◌, ◌≤◌, ◌<◌, max}
use native.Mathlib.Omega.{arith}
use native.Mathlib.Decide.{dec_lt}
use mathlib.Core.Path.{◌≡◌, refl, sym, ap, ◌∙◌}
use mathlib.Core.Bool.{Bool, true, false, not, cond}
use mathlib.Core.List.{List, [], ◌∷◌}
use borrow.Author.Tests.{ltb-true, ltb-false}
use lib.Dec.{ltb}
use lib.ListN.{length, get_or, set}
use lib.IntN.{ℤ, pos}
use mir.Val.{bool_byte}
use Rattle.span.specs.Span.{Span, span, Ordered}
use Rattle.span.specs.Operations.{Plain, absorb, united}
use Rattle.span.proofs.Holding.{ordered_from}
use Rattle.span.proofs.Union.{plain_united}
use Rattle.span.proofs.Walks.{Spaced, spaced_ordered, spaced_plain, united_left, united_right, united_none, united_from, length_united}
use Rattle.span.proofs.Walks.{absorb_step, absorb_some, absorb_apart, grown}
use Rattle.key.specs.Rank.{rank, key_at}
use Rattle.key.specs.Range.{kind_of}
use Rattle.key.specs.declared.RangeKind.{RangeKind}
use Rattle.outcomes.specs.declared.Stored.{Stored}
use Rattle.two_sets.specs.InnerKind.{wide}
use Rattle.two_sets.specs.InnerSides.{Side, rows, rows_from}
use Rattle.two_sets.proofs.Columns.{length_rows, spaced_rest, rest_more, rest_none, rest_all}
use Rattle.two_sets.specs.InnerLists.{Counting, Going}
use Rattle.two_sets.proofs.Writing.{counting_step, going_step}
use Rattle.union.specs.InnerFound.{either, open_from, Opened, Takes, TakesNext}
use Rattle.union.specs.declared.walk.Taken.{Taken}

-- THE NEXT RANGE, where both sets have one: that which starts first
module _ {m other : Stored} {k l : ℕ} (r : Taken) (there : k < m.count) where
  pub next_both : l < other.count → r.left ≡ ltb (rank (get_or m.starts k (pos 0))) (rank (get_or other.starts l (pos 0)))
      → rank r.start ≡ cond r.left (rank (get_or m.starts k (pos 0))) (rank (get_or other.starts l (pos 0)))
      → rank r.end ≡ cond r.left (rank (get_or m.ends k (pos 0))) (rank (get_or other.ends l (pos 0))) → TakesNext m k other l r
  next_both h f s e = record {
    lefts = λ g. record {
      there = there;
      start = rw g at s;
      end = rw g at e;
      first = λ _. let p = ltb-true (rank (get_or m.starts k (pos 0))) (rank (get_or other.starts l (pos 0))) (sym f ∙ g) in omega arith;
    };
    rights = λ g. record {
      there = h;
      start = rw g at s;
      end = rw g at e;
      first = λ _. ltb-false (rank (get_or m.starts k (pos 0))) (rank (get_or other.starts l (pos 0))) (sym f ∙ g);
    };
    sooner = λ g _. ltb-true (rank (get_or m.starts k (pos 0))) (rank (get_or other.starts l (pos 0))) (sym f ∙ g);
  }

-- the open range from lo to w + h, and a range from s to w + e that starts no sooner, before all others
grown_is : (w lo h s e : ℕ) → grown (span lo (w + h) 0) (span s (w + e) 0) ≡ span (cond (ltb s (w + h)) lo s) (w + max h e) 0
unfolding grown
grown_is w lo h s e = let hi : max (w + h) (w + e) ≡ w + max h e = omega arith in rw hi

lay : (w lo h s e : ℕ) (xs ys : List Span) → lo < w + h → s < w + e → lo ≤ s → Ordered s xs → Ordered s ys → Plain xs → Plain ys
    → absorb (span lo (w + h) 0) (absorb (span s (w + e) 0) (united xs ys))
    ≡ cond (ltb s (w + h)) (absorb (span (cond (ltb s (w + h)) lo s) (w + max h e) 0) (united xs ys))
    (span lo (w + h) 0 ∷ absorb (span (cond (ltb s (w + h)) lo s) (w + max h e) 0) (united xs ys))
lay w lo h s e xs ys f g b o q l m =
    let all : (c : ℕ) → c ≤ s → Ordered c (united xs ys) = λ c i. united_from c xs ys (ordered_from {b = s} xs i o) (ordered_from {b = s} ys i q) in
    absorb_step (span lo (w + h) 0) (span s (w + e) 0) (united xs ys) f g b refl refl (all lo b) (plain_united xs ys l m) (λ i. all (w + h) i)
    ∙ rw (grown_is w lo h s e)

-- what is known of a range that is taken, whichever set it is from
record Took (kind : RangeKind) (lo s e : ℕ) (here there more : List Span) : Type 0 where
  cons : here ≡ span s (wide kind + e) 0 ∷ more
  full : s < wide kind + e
  later : lo ≤ s
  rest_on : Spaced 0 more
  here_on : Ordered s more
  there_on : Ordered s there

module _ (kind : RangeKind) {m other : Stored} (a : Side (kind_of kind) m) (b : Side (kind_of kind) other) {k l lo : ℕ} (r : Taken) where
  took : Takes m k other l r → Ordered lo (rows_from (kind_of kind) m k)
      → Took kind lo (rank r.start) (rank r.end) (rows_from (kind_of kind) m k) (rows_from (kind_of kind) other l) (rows_from (kind_of kind) m (k + 1))
  took t o =
      let more = rows_from (kind_of kind) m (k + 1) in
      let x = rest_more kind a k t.there t.start t.end in
      let p = rw x at o in
      let s = rw x at (spaced_rest (kind_of kind) a k) in
      record {
        cons = x;
        full = s.1;
        later = p.0;
        rest_on = spaced_rest (kind_of kind) a (k + 1);
        here_on = ordered_from {b = suc (wide kind + rank r.end)} {c = rank r.start} more (omega (arith, s.1))
            (spaced_ordered (suc (wide kind + rank r.end)) more s.3);
        there_on = elim (dec_lt l other.count) [
          | yes h ↦
              let y = rest_more kind b l h refl refl in
              let q = rw y at (spaced_ordered 0 (rows_from (kind_of kind) other l) (spaced_rest (kind_of kind) b l)) in
              rw y (omega (arith, t.first h, t.start), q.1, q.2)
          | no h ↦ rw (rest_none (kind_of kind) b l (omega arith)) tt
        ];
      }

-- what is still to be written after a step, which took the left range or the right one; and that a range may be open there
abbrev pub open_next : RangeKind → ℕ → ℕ → Stored → ℕ → Stored → ℕ → Bool → List Span
open_next kind s e a i b j left = open_from kind s e a (i + bool_byte left) b (j + bool_byte (not left))

abbrev pub OpenedNext : RangeKind → ℕ → ℕ → Stored → ℕ → Stored → ℕ → Bool → Type 0
OpenedNext kind s e a i b j left = Opened kind s e a (i + bool_byte left) b (j + bool_byte (not left))

-- what the open range is then
still_full : (joins : Bool) (w lo h s e : ℕ) → lo < w + h → s < w + e → cond joins lo s < w + max h e
still_full true w lo h s e f g = omega arith
still_full false w lo h s e f g = omega arith

no_later : (joins : Bool) (lo s : ℕ) → lo ≤ s → cond joins lo s ≤ s
no_later true lo s b = b
no_later false lo s b = omega arith

turned : (joins : Bool) (xs ys : List Span) → cond joins xs ys ≡ cond (not joins) ys xs
turned true xs ys = refl
turned false xs ys = refl

module _ (kind : RangeKind) {m other : Stored} (a : Side (kind_of kind) m) (b : Side (kind_of kind) other) where
  -- at most as many as the sets have together
  pub most : length (either kind m other) ≤ m.count + other.count
  most = omega (arith, length_united (rows (kind_of kind) m) (rows (kind_of kind) other), length_rows (kind_of kind) a, length_rows (kind_of kind) b)

  module _ {i j lo h : ℕ} (o : Opened kind lo h m i other j) (r : Taken) (t : TakesNext m i other j r) where
    by_left : (left : Bool) → r.left ≡ left →
        let s = rank r.start in
        let joins = ltb s (wide kind + h) in
        let lo₁ = cond joins lo s in
        let h₁ = max h (rank r.end) in
        (open_from kind lo h m i other j
        ≡ cond joins (open_next kind lo₁ h₁ m i other j left) (span lo (wide kind + h) 0 ∷ open_next kind lo₁ h₁ m i other j left))
        × OpenedNext kind lo₁ h₁ m i other j left
    by_left true f =
        let k = took kind a b r (t.lefts f) o.after_a in
        let xs = rows_from (kind_of kind) m (i + 1) in
        let ys = rows_from (kind_of kind) other j in
        let s = rank r.start in
        let e = rank r.end in
        let n : j + 0 ≡ j = omega arith in
        let le = no_later (ltb s (wide kind + h)) lo s k.later in
        rw n (
          ap (absorb (span lo (wide kind + h) 0)) (ap (λ (x : List Span). united x ys) k.cons ∙ united_left (span s (wide kind + e) 0) xs ys)
              ∙ lay (wide kind) lo h s e xs ys o.full k.full k.later k.here_on k.there_on
              (spaced_plain 0 xs k.rest_on) (spaced_plain 0 ys (spaced_rest (kind_of kind) b j)),
          record {
            in_a = omega (arith, (t.lefts f).there);
            in_b = o.in_b;
            full = still_full (ltb s (wide kind + h)) (wide kind) lo h s e o.full k.full;
            after_a = ordered_from {b = s} xs le k.here_on;
            after_b = ordered_from {b = s} ys le k.there_on;
          },
        )
    by_left false f =
        let k = took kind b a r (t.rights f) o.after_b in
        let xs = rows_from (kind_of kind) m i in
        let ys = rows_from (kind_of kind) other (j + 1) in
        let s = rank r.start in
        let e = rank r.end in
        let n : i + 0 ≡ i = omega arith in
        let le = no_later (ltb s (wide kind + h)) lo s k.later in
        rw n (
          ap (absorb (span lo (wide kind + h) 0))
              (ap (united xs) k.cons
              ∙ united_right xs (span s (wide kind + e) 0) ys (spaced_rest (kind_of kind) a i) (rw k.cons at (spaced_rest (kind_of kind) b j)))
              ∙ lay (wide kind) lo h s e xs ys o.full k.full k.later k.there_on k.here_on
              (spaced_plain 0 xs (spaced_rest (kind_of kind) a i)) (spaced_plain 0 ys k.rest_on),
          record {
            in_a = o.in_a;
            in_b = omega (arith, (t.rights f).there);
            full = still_full (ltb s (wide kind + h)) (wide kind) lo h s e o.full k.full;
            after_a = ordered_from {b = s} xs le k.there_on;
            after_b = ordered_from {b = s} ys le k.here_on;
          },
        )

    -- A STEP: does the range that was taken join the open one, and what is open then
    pub step_open : {lo₁ h₁ : ℕ} (joins : Bool) → joins ≡ ltb (rank r.start) (wide kind + h)
        → lo₁ ≡ cond joins lo (rank r.start) → h₁ ≡ max h (rank r.end)
        → (open_from kind lo h m i other j
        ≡ cond (not joins) (span lo (wide kind + h) 0 ∷ open_next kind lo₁ h₁ m i other j r.left)
        (open_next kind lo₁ h₁ m i other j r.left))
        × OpenedNext kind lo₁ h₁ m i other j r.left
    step_open joins p l q = let b = by_left r.left refl in (rw (l, q, p) (b.0 ∙ turned (ltb (rank r.start) (wide kind + h)) _ _), rw (l, q, p) b.1)

  pub open_last : {i j lo h : ℕ} → m.count + other.count ≤ i + j → Opened kind lo h m i other j
      → open_from kind lo h m i other j ≡ span lo (wide kind + h) 0 ∷ []
  open_last {i} {j} {lo} {h} e o =
      rw (rest_none (kind_of kind) a i (omega (arith, o.in_b)), rest_none (kind_of kind) b j (omega (arith, o.in_a)), united_none [])
      (absorb_apart (span lo (wide kind + h) 0) [] o.full tt)

  -- THE FIRST range that is taken is the open one
  module _ (r : Taken) (t : TakesNext m 0 other 0 r) where
    first_by : (left : Bool) → r.left ≡ left
        → (either kind m other ≡ open_from kind (rank r.start) (rank r.end) m (bool_byte left) other (bool_byte (not left)))
        × Opened kind (rank r.start) (rank r.end) m (bool_byte left) other (bool_byte (not left))
    first_by true f =
        let k = took kind a b {lo = 0} r (t.lefts f) (spaced_ordered 0 (rows_from (kind_of kind) m 0) (spaced_rest (kind_of kind) a 0)) in (
          rw (← rest_all (kind_of kind) a, ← rest_all (kind_of kind) b)
              (ap (λ (x : List Span). united x (rows_from (kind_of kind) other 0)) k.cons ∙ united_left _ _ _),
          record { in_a = omega (arith, (t.lefts f).there); in_b = omega arith; full = k.full; after_a = k.here_on; after_b = k.there_on },
        )
    first_by false f =
        let k = took kind b a {lo = 0} r (t.rights f) (spaced_ordered 0 (rows_from (kind_of kind) other 0) (spaced_rest (kind_of kind) b 0)) in (
          rw (← rest_all (kind_of kind) a, ← rest_all (kind_of kind) b)
              (ap (united (rows_from (kind_of kind) m 0)) k.cons
              ∙ united_right _ _ _ (spaced_rest (kind_of kind) a 0) (rw k.cons at (spaced_rest (kind_of kind) b 0))),
          record { in_a = omega arith; in_b = omega (arith, (t.rights f).there); full = k.full; after_a = k.there_on; after_b = k.here_on },
        )

    pub first_open : (either kind m other
        ≡ open_from kind (rank r.start) (rank r.end) m (bool_byte r.left) other (bool_byte (not r.left)))
        × Opened kind (rank r.start) (rank r.end) m (bool_byte r.left) other (bool_byte (not r.left))
    first_open = first_by r.left refl

  -- there is none
  pub either_none : m.count + other.count ≡ 0 → either kind m other ≡ []
  either_none e =
      rw (← rest_all (kind_of kind) a, ← rest_all (kind_of kind) b, rest_none (kind_of kind) a 0 (omega arith), rest_none (kind_of kind) b 0 (omega arith))
      (united_none [])

  -- COUNTING and WRITING, after a step
  module _ {i j lo h : ℕ} (o : Opened kind lo h m i other j) (r : Taken) (t : TakesNext m i other j r) (joins : Bool) {lo₁ h₁ : ℕ}
      (p : joins ≡ ltb (rank r.start) (wide kind + h)) (l : lo₁ ≡ cond joins lo (rank r.start)) (q : h₁ ≡ max h (rank r.end)) where
    pub still_open : OpenedNext kind lo₁ h₁ m i other j r.left
    still_open = (step_open o r t joins p l q).1

    pub counting_on : {goal : List Span} {n : ℕ} → Counting goal n (open_from kind lo h m i other j)
        → Counting goal (n + bool_byte (not joins)) (open_next kind lo₁ h₁ m i other j r.left)
    counting_on g = counting_step (not joins) (span lo (wide kind + h) 0) g (step_open o r t joins p l q).0

    pub going_on : {os oe os₁ oe₁ os₂ oe₂ : List ℤ} {goal : List Span} {n at : ℕ}
        → Going (kind_of kind) n os oe goal at (open_from kind lo h m i other j) os₁ oe₁
        → os₂ ≡ set os₁ at (key_at lo) → oe₂ ≡ set oe₁ at ((kind_of kind).ending (wide kind + h))
        → Going (kind_of kind) n os oe goal (at + bool_byte (not joins)) (open_next kind lo₁ h₁ m i other j r.left) os₂ oe₂
    going_on g s e = going_step (kind_of kind) g (not joins) (span lo (wide kind + h) 0) (step_open o r t joins p l q).0 (absorb_some _ _) s e
