-- The walk, one step at a time: of the two ranges at hand the one that ends first goes, and what they have in common is found.
use Prim.Native.Nat.{ℕ, ◌+◌, ◌≤◌, ◌<◌, min, max}
use native.Mathlib.Omega.{arith}
use mathlib.Core.Path.{◌≡◌, refl, sym, ap, ◌∙◌}
use mathlib.Core.Bool.{Bool, true, false, not, cond}
use mathlib.Core.List.{List, [], ◌∷◌, ◌++◌}
use borrow.Author.Tests.{ltb-true, ltb-false}
use lib.Dec.{ltb}
use lib.ListN.{length, set}
use lib.IntN.{ℤ}
use mir.Syntax.{w64}
use mir.Val.{SFits, bool_byte}
use Rattle.span.specs.Span.{Span, span, keep}
use Rattle.span.specs.Operations.{common}
use Rattle.span.proofs.Walks.{Spaced, meet, common_left, common_right, common_none, common_no, length_common}
use Rattle.key.specs.Rank.{rank, key_at}
use Rattle.key.specs.Range.{kind_of}
use Rattle.key.specs.declared.RangeKind.{RangeKind}
use Rattle.outcomes.specs.declared.Stored.{Stored}
use Rattle.key.proofs.Answers.{one_answer}
use Rattle.key.proofs.Laws.{rank_one}
use Rattle.two_sets.specs.InnerKind.{wide}
use Rattle.two_sets.specs.InnerSides.{Side, rows}
use Rattle.two_sets.proofs.Columns.{length_rows, spaced_rows, spaced_rest, rest_more, rest_none, rest_all}
use Rattle.two_sets.specs.InnerLists.{Going}
use Rattle.two_sets.proofs.Writing.{going_step}
use Rattle.intersection.specs.InnerFound.{shared, shared_from, key_rank, Stepped}

module _ (w s e t f : ℕ) (xs ys : List Span) (a : Spaced 0 (span s (w + e) 0 ∷ xs)) (b : Spaced 0 (span t (w + f) 0 ∷ ys)) where
  -- what the two ranges have in common, if they have
  meet_is : meet (span s (w + e) 0) (span t (w + f) 0) ≡ cond (ltb (max s t) (w + min e f)) (span (max s t) (w + min e f) 0 ∷ []) []
  unfolding meet keep
  meet_is = let hi : min (w + e) (w + f) ≡ w + min e f = omega arith in rw hi

  cons_or : (found : Bool) (x : Span) (m : List Span) → cond found (x ∷ []) [] ++ m ≡ cond found (x ∷ m) m
  cons_or true x m = refl
  cons_or false x m = refl

  step_left : e < f → common (span s (w + e) 0 ∷ xs) (span t (w + f) 0 ∷ ys)
      ≡ cond (ltb (max s t) (w + min e f)) (span (max s t) (w + min e f) 0 ∷ common xs (span t (w + f) 0 ∷ ys)) (common xs (span t (w + f) 0 ∷ ys))
  step_left h =
      common_left (span s (w + e) 0) (span t (w + f) 0) xs ys a b (omega arith)
      ∙ rw (meet_is) (cons_or (ltb (max s t) (w + min e f)) (span (max s t) (w + min e f) 0) _)

  step_right : f ≤ e → common (span s (w + e) 0 ∷ xs) (span t (w + f) 0 ∷ ys)
      ≡ cond (ltb (max s t) (w + min e f)) (span (max s t) (w + min e f) 0 ∷ common (span s (w + e) 0 ∷ xs) ys) (common (span s (w + e) 0 ∷ xs) ys)
  step_right h =
      common_right (span s (w + e) 0) (span t (w + f) 0) xs ys a b (omega arith)
      ∙ rw (meet_is) (cons_or (ltb (max s t) (w + min e f)) (span (max s t) (w + min e f) 0) _)

-- what the sets have in common after a step: the left range went, or the right one
abbrev pub shared_next : RangeKind → Stored → ℕ → Stored → ℕ → Bool → List Span
shared_next kind a i b j left = shared_from kind a (i + bool_byte left) b (j + bool_byte (not left))

module _ (kind : RangeKind) {m other : Stored} (a : Side (kind_of kind) m) (b : Side (kind_of kind) other) where
  -- at most as many as the sets have together
  pub most : length (shared kind m other) ≤ m.count + other.count
  most =
      omega (
        arith,
        length_common (rows (kind_of kind) m) (rows (kind_of kind) other) (spaced_rows (kind_of kind) a) (spaced_rows (kind_of kind) b),
        length_rows (kind_of kind) a,
        length_rows (kind_of kind) b,
      )

  -- from the first places on it is all
  pub found_all : shared kind m other ≡ shared_from kind m 0 other 0
  found_all = rw (rest_all (kind_of kind) a, rest_all (kind_of kind) b)

  -- past the end of either nothing is found
  pub found_none : (i j : ℕ) → m.count ≤ i → shared_from kind m i other j ≡ []
  found_none i j h = rw (rest_none (kind_of kind) a i h) (common_none _)

  pub found_no : (i j : ℕ) → other.count ≤ j → shared_from kind m i other j ≡ []
  found_no i j h = rw (rest_none (kind_of kind) b j h) (common_no _ (spaced_rest (kind_of kind) a i))

  -- A STEP: s and t are the ranks of the starts at hand, e and f those of the ends
  module _ {i j s e t f : ℕ} (p : i < m.count) (q : j < other.count)
      (s-is : s ≡ key_rank m.starts i) (e-is : e ≡ key_rank m.ends i) (t-is : t ≡ key_rank other.starts j) (f-is : f ≡ key_rank other.ends j) where
    found_by_lem : (left : Bool) → left ≡ ltb e f → shared_from kind m i other j
        ≡ cond (ltb (max s t) (wide kind + min e f)) (span (max s t) (wide kind + min e f) 0 ∷ shared_next kind m i other j left)
        (shared_next kind m i other j left)
    found_by_lem true h =
        let x = rest_more kind a i p s-is e-is in
        let y = rest_more kind b j q t-is f-is in
        let n : j + 0 ≡ j = omega arith in
        rw (n, x, y)
        (step_left (wide kind) s e t f _ _ (rw x at (spaced_rest (kind_of kind) a i)) (rw y at (spaced_rest (kind_of kind) b j)) (ltb-true e f (sym h)))
    found_by_lem false h =
        let x = rest_more kind a i p s-is e-is in
        let y = rest_more kind b j q t-is f-is in
        let n : i + 0 ≡ i = omega arith in
        rw (n, x, y)
        (step_right (wide kind) s e t f _ _ (rw x at (spaced_rest (kind_of kind) a i)) (rw y at (spaced_rest (kind_of kind) b j)) (ltb-false e f (sym h)))

    found_step : {lo hi : ℕ} (left found : Bool) → left ≡ ltb e f → lo ≡ max s t → hi ≡ min e f → found ≡ ltb lo (wide kind + hi)
        → shared_from kind m i other j
        ≡ cond found (span lo (wide kind + hi) 0 ∷ shared_next kind m i other j left) (shared_next kind m i other j left)
    found_step left found l lo hi g = rw (g, lo, hi) (found_by_lem left l)

-- THE ENDS AT HAND after a step: of the side that goes the next one, which was read ahead, and of the other the same
pub ahead_a : (left : Bool) (l : List ℤ) (i : ℕ) {here next r : ℕ} → here ≡ key_rank l i → next ≡ key_rank l (i + 1) → r ≡ cond left next here
    → r ≡ key_rank l (i + bool_byte left)
ahead_a true l i h n e = e ∙ n
ahead_a false l i h n e = let z : i + 0 ≡ i = omega arith in rw z (e ∙ h)

pub ahead_b : (left : Bool) (l : List ℤ) (j : ℕ) {here next r : ℕ} → here ≡ key_rank l j → next ≡ key_rank l (j + 1) → r ≡ cond left here next
    → r ≡ key_rank l (j + bool_byte (not left))
ahead_b true l j h n e = let z : j + 0 ≡ j = omega arith in rw z (e ∙ h)
ahead_b false l j h n e = e ∙ n

-- a step over ends that were carried along is one over the ends at hand
pub stepped_as : {kind : RangeKind} {s e e' t f f' : ℕ} {lo hi : ℤ} {found left : Bool} → e ≡ e' → f ≡ f'
    → Stepped kind s e t f lo hi found left → Stepped kind s e' t f' lo hi found left
stepped_as p q st = rw (← p, ← q) st

-- THE OUTPUT after a step: the open range was written, and is now what was found, or the same
open_step : (found : Bool) (w lo hi s e lo₁ hi₁ : ℕ) (all more : List Span) → all ≡ cond found (span s (w + e) 0 ∷ more) more
    → lo₁ ≡ cond found s lo → hi₁ ≡ cond found e hi
    → span lo (w + hi) 0 ∷ all ≡ cond found (span lo (w + hi) 0 ∷ span lo₁ (w + hi₁) 0 ∷ more) (span lo₁ (w + hi₁) 0 ∷ more)
open_step true w lo hi s e lo₁ hi₁ all more a l h = rw (a, l, h)
open_step false w lo hi s e lo₁ hi₁ all more a l h = rw (a, l, h)

module _ (kind : RangeKind) {m other : Stored} (a : Side (kind_of kind) m) (b : Side (kind_of kind) other)
    {i j : ℕ} (p : i < m.count) (q : j < other.count) {start end : ℤ} {found left : Bool}
    (e : Stepped kind (key_rank m.starts i) (key_rank m.ends i) (key_rank other.starts j) (key_rank other.ends j) start end found left) where
  pub step_found : shared_from kind m i other j
      ≡ cond found (span (rank start) (wide kind + rank end) 0 ∷ shared_next kind m i other j left) (shared_next kind m i other j left)
  step_found = found_step kind a b p q refl refl refl refl left found e.first e.start e.end e.met

  -- the first that is found; and none yet
  pub first_found : {goal : List Span} → found ≡ true → goal ≡ shared_from kind m i other j
      → goal ≡ span (rank start) (wide kind + rank end) 0 ∷ shared_next kind m i other j left
  first_found f g = g ∙ (rw f at step_found)

  pub none_found : {goal : List Span} → found ≡ false → goal ≡ shared_from kind m i other j → goal ≡ shared_next kind m i other j left
  none_found f g = g ∙ (rw f at step_found)

  pub going_found : {os oe os₁ oe₁ os₂ oe₂ : List ℤ} {goal : List Span} {n at : ℕ} (lo hi lo₁ hi₁ : ℕ)
      → Going (kind_of kind) n os oe goal at (span lo (wide kind + hi) 0 ∷ shared_from kind m i other j) os₁ oe₁
      → lo₁ ≡ cond found (rank start) lo → hi₁ ≡ cond found (rank end) hi
      → os₂ ≡ set os₁ at (key_at lo) → oe₂ ≡ set oe₁ at ((kind_of kind).ending (wide kind + hi))
      → Going (kind_of kind) n os oe goal (at + bool_byte found) (span lo₁ (wide kind + hi₁) 0 ∷ shared_next kind m i other j left) os₂ oe₂
  going_found lo hi lo₁ hi₁ g l h s t =
      going_step (kind_of kind) g found (span lo (wide kind + hi) 0)
      (open_step found (wide kind) lo hi (rank start) (rank end) lo₁ hi₁ _ _ step_found l h) (omega arith) s t

-- THE ONE STEP over two ranges: the keys from which and up to which, whether they have one in common, and which range goes
pub stepped_one : {kind : RangeKind} {s e t f : ℕ} {lo hi lo' hi' : ℤ} {found left found' left' : Bool}
    → SFits w64 lo → SFits w64 hi → SFits w64 lo' → SFits w64 hi' → Stepped kind s e t f lo hi found left → Stepped kind s e t f lo' hi' found' left'
    → (lo ≡ lo') × (hi ≡ hi') × (found ≡ found') × (left ≡ left')
stepped_one {kind} {hi = hi} {lo' = lo'} lo-fits hi-fits lo-fits' hi-fits' a b =
    let start = rank_one lo-fits lo-fits' a.start b.start in
    let end = rank_one hi-fits hi-fits' a.end b.end in
    let from = ap (λ (x : ℤ). ltb (rank x) (wide kind + rank hi)) start in
    let upto = ap (λ (x : ℤ). ltb (rank lo') (wide kind + rank x)) end in
    (start, end, a.met ∙ from ∙ upto ∙ sym b.met, one_answer a.first b.first)
