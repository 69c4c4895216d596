-- INSERT and REMOVE of the inclusive map: its tests and its adjustments are those of the half-open one, as long as no key is past the greatest.
-- add-one is asked of keys below the greatest alone: of its answer elsewhere nothing is known, and it may be a panic.
use Prim.Native.Nat.{ℕ, zero, suc, ◌-◌, ◌≤◌, ◌<◌, min, max}
use native.Mathlib.Omega.{arith}
use native.Mathlib.Decide.{dec_lt, ℕ_discrete}
use mathlib.Core.Path.{◌≡◌, refl, ap, subst, fun_ext, ◌∙◌}
use mathlib.Core.List.{List, [], ◌∷◌, ◌++◌}
use mathlib.Core.Bool.{Bool, cond}
use mathlib.Core.Option.{Option, some, none}
use lib.Dec.{ltb, leb, eqb}
use borrow.Author.Tests.{lt-ltb, le-ltb, le-leb, lt-leb, eq-eqb, ne_eqb}
use Rattle.span.specs.Span.{Span, span, Ordered, Upto, Tidy, keep, inserted, removed}
use Rattle.span.proofs.Tests.{cases}
use Rattle.rust_algorithm.specs.Btree.{rust_then, if_let, filtered, filtered_by, reversed, taken, next}
use Rattle.rust_algorithm.specs.Btree.{up_to, strictly_between, starting, starting_by, deleted, entered}
use Rattle.rust_algorithm.specs.Map.{rust_ranges_overlap, rust_ranges_touch, State, state, last_candidate, cut_out, adjust, candidate, remove_candidate}
use Rattle.rust_algorithm.specs.InclusiveMap.{StepFns, inclusive_ranges_overlap, inclusive_ranges_touch, left_back, right_back}
use Rattle.rust_algorithm.specs.InclusiveMap.{inclusive_cut_out, inclusive_adjust, inclusive_candidate, inclusive_insert_loop, inclusive_finish}
use Rattle.rust_algorithm.specs.InclusiveMap.{inclusive_insert_body, inclusive_insert}
use Rattle.rust_algorithm.specs.InclusiveMap.{inclusive_remove_candidate, inclusive_remove_loop, inclusive_remove_body, inclusive_remove}
use Rattle.rust_algorithm.proofs.Entries.{Below, below_more, between_skip, between_none, between_here, cut_clear}
use Rattle.rust_algorithm.proofs.Candidate.{part}
use Rattle.rust_algorithm.proofs.InsertLoop.{Loop, Prepared, below_ahead, adjust_same, adjust_over, body, prepare}
use Rattle.rust_algorithm.proofs.RemoveLoop.{Clearing, Prepared as Cleared, below_ends, body as cleared, prepare as begin}
use Rattle.rust_algorithm.proofs.Insert.{and_no}

-- every range of the list is not empty and ends by top
abbrev pub Sound : ℕ → List Span → Type 0
Sound top [] = Unit {0}
Sound top (x ∷ xs) = (x.lo < x.hi) × (x.hi ≤ top) × Sound top xs

pub sound : (top b : ℕ) (m : List Span) → Ordered b m → Upto top m → Sound top m
sound top b [] o u = tt
sound top b (x ∷ xs) o u = (o.1, u.0, sound top x.hi xs o.2 u.1)

pub sound_filtered : (top : ℕ) (p : Span → Bool) (m : List Span) → Sound top m → Sound top (filtered p m)
unfolding filtered
sound_filtered top p [] s = tt
sound_filtered top p (x ∷ xs) s = let ih = sound_filtered top p xs s.2 in cases (p x) (Sound top) (λ t. (s.0, s.1, ih)) (λ t. ih)

sound_snoc : (top : ℕ) (m : List Span) (x : Span) → Sound top m → x.lo < x.hi → x.hi ≤ top → Sound top (m ++ x ∷ [])
sound_snoc top [] x s h i = (h, i, tt)
sound_snoc top (y ∷ ys) x s h i = (s.0, s.1, sound_snoc top ys x s.2 h i)

pub sound_reversed : (top : ℕ) (m : List Span) → Sound top m → Sound top (reversed m)
unfolding reversed
sound_reversed top [] s = tt
sound_reversed top (x ∷ xs) s = sound_snoc top (reversed xs) x (sound_reversed top xs s.2) s.0 s.1

pub sound_taken : (top n : ℕ) (m : List Span) → Sound top m → Sound top (taken n m)
unfolding taken
sound_taken top zero m s = tt
sound_taken top (suc n) [] s = tt
sound_taken top (suc n) (x ∷ xs) s = (s.0, s.1, sound_taken top n xs s.2)

-- the last n that start by k are sound too
pub sound_near : (top n k : ℕ) (m : List Span) → Sound top m → Sound top (taken n (reversed (up_to k m)))
unfolding up_to
sound_near top n k m s = sound_taken top n _ (sound_reversed top _ (sound_filtered top _ m s))

module _ (top : ℕ) (q : Span → Bool) where
  pub filtered_same : (p : Span → Bool) (m : List Span) → ((x : Span) → x.lo < x.hi → x.hi ≤ top → p x ≡ q x) → Sound top m → filtered p m ≡ filtered q m
  unfolding filtered
  filtered_same p [] e s = refl
  filtered_same p (x ∷ xs) e s = rw (e x s.0 s.1, filtered_same p xs e s.2)

  filtered_by_same : (p : Span → Option Bool) (m : List Span) → ((x : Span) → x.lo < x.hi → x.hi ≤ top → p x ≡ some (q x)) → Sound top m
      → filtered_by p m ≡ some (filtered q m)
  unfolding filtered filtered_by
  filtered_by_same p [] e s = refl
  filtered_by_same p (x ∷ xs) e s = rw (e x s.0 s.1, filtered_by_same p xs e s.2)

-- tests on ends, and on what lies past them
pub leb_ltb : (a b c : ℕ) → suc b ≡ c → leb a b ≡ ltb a c
leb_ltb a b c e = elim (dec_lt b a) [
  | yes p ↦ rw (lt-leb a b p, le-ltb a c (omega arith))
  | no p ↦ rw (le-leb a b (omega arith), lt-ltb a c (omega arith))
]

pub ltb_same : (a b c d : ℕ) → (a < b → c < d) → (c < d → a < b) → ltb a b ≡ ltb c d
ltb_same a b c d f g = elim (dec_lt a b) [
  | yes p ↦ rw (lt-ltb a b p, lt-ltb c d (f p))
  | no p ↦ rw (le-ltb a b (omega arith), le-ltb c d (elim (dec_lt c d) [ yes q ↦ absurd (p (g q)) | no q ↦ omega arith ]))
]

pub overlap_same : (a b c d : ℕ) → a < b → c < d → inclusive_ranges_overlap a (b - 1) c (d - 1) ≡ rust_ranges_overlap a b c d
unfolding inclusive_ranges_overlap rust_ranges_overlap
overlap_same a b c d h i = leb_ltb (max a c) (min (b - 1) (d - 1)) (min b d) (omega arith)

starting_by_same : (lo hi : ℕ) (m : List Span) → 0 < hi → starting_by lo (hi - 1) m ≡ strictly_between lo hi m
unfolding starting_by strictly_between
starting_by_same lo hi m h = ap (λ (p : Span → Bool). filtered p m) (fun_ext (λ x. rw (leb_ltb x.lo (hi - 1) hi (omega arith))))

-- range((Included(s), Unbounded)).next()
starting_skip : (s : ℕ) (ls rest : List Span) → Below s ls → starting s (ls ++ rest) ≡ starting s rest
unfolding starting filtered
starting_skip s [] rest b = refl
starting_skip s (x ∷ xs) rest b = rw (lt-leb s x.lo b.0) (starting_skip s xs rest b.1)

starting_none : (s : ℕ) → starting s [] ≡ []
unfolding starting filtered
starting_none s = refl

starting_here : (s : ℕ) (x : Span) (xs : List Span) → s ≤ x.lo → next (starting s (x ∷ xs)) ≡ some x
unfolding starting filtered
starting_here s x xs h = rw (le-leb s x.lo h)

-- the same state, with the end that an inclusive range has
narrow : State → State
narrow t = state t.btm t.start (t.end - 1)

module _ (add-one sub-one : ℕ → Option ℕ) (greatest : ℕ) (steps : StepFns add-one sub-one greatest) where
  add_back : (e : ℕ) → 0 < e → e ≤ greatest → add-one (e - 1) ≡ some e
  add_back e h i = let z : suc (e - 1) ≡ e = omega arith in steps.adds (e - 1) (omega arith) ∙ ap some z

  pub touch_same : (a b c d : ℕ) → a < b → c < d → b ≤ suc greatest → d ≤ suc greatest
      → inclusive_ranges_touch add-one sub-one a (b - 1) c (d - 1) ≡ some (rust_ranges_touch a b c d)
  unfolding inclusive_ranges_touch rust_ranges_touch
  touch_same a b c d h i j k =
      let e = min (b - 1) (d - 1) in
      let m : suc e ≡ min b d = omega arith in
      elim (dec_lt e (max a c)) [
        | yes p ↦ rw (lt-ltb e (max a c) p, steps.adds e (omega arith), m)
        | no p ↦ rw (le-ltb e (max a c) (omega arith), le-leb (max a c) e (omega arith), le-leb (max a c) (min b d) (omega arith))
      ]

  left_same : (x : Span) (s : ℕ) (m : List Span) → left_back add-one sub-one x s m ≡ some (cond (ltb x.lo s) (entered (span x.lo s x.label) m) m)
  unfolding left_back
  left_same x s m = elim (dec_lt x.lo s) [
    | yes p ↦ let whole : suc (s - 1) ≡ s = omega arith in rw (lt-ltb x.lo s p, steps.subs s (omega arith), whole)
    | no p ↦ rw (le-ltb x.lo s (omega arith))
  ]

  right_same : (x : Span) (e : ℕ) (m : List Span) → x.lo < x.hi → x.hi ≤ suc greatest → 0 < e
      → right_back add-one sub-one x (e - 1) m ≡ some (cond (ltb e x.hi) (entered (span e x.hi x.label) m) m)
  unfolding right_back
  right_same x e m h i j =
      let whole : suc (x.hi - 1) ≡ x.hi = omega arith in
      rw (whole, ltb_same (e - 1) (x.hi - 1) e x.hi (omega arith) (omega arith)) (elim (dec_lt e x.hi) [
        | yes p ↦ rw (lt-ltb e x.hi p, add_back e j (omega arith))
        | no p ↦ rw (le-ltb e x.hi (omega arith))
      ])

  cut_same : (x : Span) (s e : ℕ) (m : List Span) → x.lo < x.hi → x.hi ≤ suc greatest → 0 < e
      → inclusive_cut_out add-one sub-one x s (e - 1) m ≡ some (cut_out x s e m)
  unfolding inclusive_cut_out cut_out
  cut_same x s e m h i j = rw (left_same x s (deleted x.lo m)) (right_same x e _ h i j)

  adjust_narrow : (x : Span) (v : ℕ) (m : List Span) (s e : ℕ) → x.lo < x.hi → x.hi ≤ suc greatest → s < e
      → inclusive_adjust add-one sub-one x v (state m s (e - 1)) ≡ some (narrow (adjust x v (state m s e)))
  unfolding inclusive_adjust adjust narrow
  adjust_narrow x v m s e h i j = elim (ℕ_discrete x.label v) [
    | yes l ↦ let far : max (e - 1) (x.hi - 1) ≡ max e x.hi - 1 = omega arith in rw (eq-eqb x.label v l, far)
    | no l ↦ rw (ne_eqb x.label v l, overlap_same s e x.lo x.hi j h, cut_same x s e m h i (omega arith))
        (cases (rust_ranges_overlap s e x.lo x.hi)
        (λ (t : Option State). t ≡ some (narrow (cond (rust_ranges_overlap s e x.lo x.hi) (state (cut_out x s e m) s e) (state m s e))))
        (λ q. rw q) (λ q. rw q))
  ]

  -- INSERT
  module _ (ls : List Span) (s v e : ℕ) (real : s < e) (below : Below s ls) where
    go : ℕ → List Span → ℕ → Option (List Span)
    go n m f = rust_then (inclusive_insert_loop add-one sub-one n (e - 1) v (state m s (f - 1))) (inclusive_finish add-one sub-one v)

    whole : (f : ℕ) → s < f → suc (f - 1) ≡ f
    whole f h = omega arith

    out : (n f c : ℕ) (rest : List Span) → 0 < n → s < f → e < c → Ordered c rest → Upto (suc greatest) rest
        → go n (ls ++ rest) f ≡ some (entered (span s f v) (ls ++ rest))
    unfolding go inclusive_insert_loop
    out zero f c rest p r i o u = absurd (omega arith)
    out (suc n) f c [] p r i o u = rw (starting_skip s ls [] below, starting_none s, whole f r)
    out (suc n) f c (x ∷ xs) p r i o u = rw (
      starting_skip s ls (x ∷ xs) below,
      starting_here s x xs (omega arith),
      lt-ltb (e - 1) x.lo (omega arith),
      add_back e (omega arith) (omega arith),
      lt-ltb e x.lo (omega arith),
      whole f r,
    )

    into : (n : ℕ) (x : Span) (xs : List Span) → 0 < n → x.lo ≡ e → (x.label ≡ v → ⊥) → x.lo < x.hi → x.hi ≤ suc greatest
        → go n (ls ++ x ∷ xs) e ≡ some (entered (span s e v) (ls ++ x ∷ xs))
    unfolding go inclusive_insert_loop
    into zero x xs f i j full u = absurd (omega arith)
    into (suc n) x xs f i j full u = rw (
      starting_skip s ls (x ∷ xs) below,
      starting_here s x xs (omega arith),
      lt-ltb (e - 1) x.lo (omega arith),
      add_back e (omega arith) (omega arith),
      le-ltb e x.lo (omega arith),
      eq-eqb x.lo e i,
      ne_eqb x.label v j,
      whole e real,
    )

    same : (n far : ℕ) (x : Span) (xs : List Span) → s ≤ x.lo → x.lo ≤ e → x.lo < x.hi → x.hi ≤ suc greatest → x.label ≡ v → max e x.hi ≡ far
        → go (suc n) (ls ++ x ∷ xs) e ≡ go n (ls ++ xs) far
    unfolding go inclusive_insert_loop narrow
    same n far x xs i j f u l m =
        let b : Below x.lo ls = below_more ls i below in
        let start : min s x.lo ≡ s = omega arith in
        let after : inclusive_adjust add-one sub-one x v (state (ls ++ x ∷ xs) s (e - 1)) ≡ some (state (ls ++ xs) s (far - 1))
        = adjust_narrow x v (ls ++ x ∷ xs) s e f u real ∙ rw (adjust_same ls x xs s e v b l, start, m) in
        elim (dec_lt x.lo e) [
          | yes p ↦ rw (starting_skip s ls (x ∷ xs) below, starting_here s x xs i, le-ltb (e - 1) x.lo (omega arith), after)
          | no p ↦ rw (
            starting_skip s ls (x ∷ xs) below,
            starting_here s x xs i,
            lt-ltb (e - 1) x.lo (omega arith),
            add_back e (omega arith) (omega arith),
            le-ltb e x.lo (omega arith),
            eq-eqb x.label v l,
            and_no (eqb x.lo e),
            after,
          )
        ]

    other : (n : ℕ) (x : Span) (xs : List Span) → s ≤ x.lo → x.lo < e → x.lo < x.hi → x.hi ≤ suc greatest → Ordered x.hi xs → (x.label ≡ v → ⊥)
        → go (suc n) (ls ++ x ∷ xs) e ≡ go n (ls ++ keep (span e x.hi x.label) xs) e
    unfolding go inclusive_insert_loop narrow
    other n x xs i k f u o l =
        let b : Below x.lo ls = below_more ls i below in
        let after : inclusive_adjust add-one sub-one x v (state (ls ++ x ∷ xs) s (e - 1))
        ≡ some (state (ls ++ keep (span e x.hi x.label) xs) s (e - 1))
        = adjust_narrow x v (ls ++ x ∷ xs) s e f u real
        ∙ rw (adjust_over ls x xs s e v b l (omega arith), cut_clear x s e xs f real (omega arith) o ls b i) in
        rw (starting_skip s ls (x ∷ xs) below, starting_here s x xs i, le-ltb (e - 1) x.lo (omega arith), after)

    the_loop : Loop (suc greatest) go ls s v e
    the_loop = record { out = out; into = into; same = same; other = other }

  inserts : (lo hi v : ℕ) (m : List Span) (t : State) → lo < hi → Tidy 0 m → Upto (suc greatest) m → Prepared lo hi v m t
      → inclusive_insert_body add-one sub-one v (narrow t) ≡ some (inserted lo hi v m)
  unfolding go narrow
  inserts lo hi v m t h tidy u p =
      let below = below_ahead 0 p.ls (span p.s p.e v) p.tidy.ordered p.ahead in
      let run = go p.ls p.s v p.e p.real below in
      rw p.is (body (suc greatest) run lo hi v m t h tidy u p (the_loop p.ls p.s v p.e p.real below))

  -- up to the loop
  module _ (lo hi v : ℕ) (m : List Span) (real : lo < hi) (by : hi ≤ suc greatest) where
    -- the given range, and the stored range that it is adjusted to, if there is one
    begun : State
    begun = if_let (candidate lo hi m) (λ x. adjust x v (state m lo hi)) (state m lo hi)

    chosen_narrow : (l : List Span) → Sound (suc greatest) l
        → if_let (last_candidate l) (λ x. inclusive_adjust add-one sub-one x v (state m lo (hi - 1))) (some (state m lo (hi - 1)))
        ≡ some (narrow (if_let (last_candidate l) (λ x. adjust x v (state m lo hi)) (state m lo hi)))
    unfolding narrow
    chosen_narrow [] s = refl
    chosen_narrow (x ∷ []) s = adjust_narrow x v m lo hi s.0 s.1 real
    chosen_narrow (x ∷ y ∷ ys) s = adjust_narrow y v m lo hi s.2.0 s.2.1 real

    started : Sound (suc greatest) m → rust_then (inclusive_candidate add-one sub-one lo (hi - 1) m)
        (λ c. if_let c (λ x. inclusive_adjust add-one sub-one x v (state m lo (hi - 1))) (some (state m lo (hi - 1)))) ≡ some (narrow begun)
    unfolding inclusive_candidate candidate begun
    started s =
        let near = taken 2 (reversed (up_to lo m)) in
        let u : Sound (suc greatest) near = sound_near (suc greatest) 2 lo m s in
        let test : Span → Bool = λ x. rust_ranges_touch x.lo x.hi lo hi in
        rw (filtered_by_same (suc greatest) test (λ x. inclusive_ranges_touch add-one sub-one x.lo (x.hi - 1) lo (hi - 1)) near
        (λ x f t. touch_same x.lo x.hi lo hi f real t by) u)
        (chosen_narrow (filtered test near) (sound_filtered (suc greatest) test near u))

  -- what comes after what may panic, in one go or in two
  then_then : {A B C : Type 0} (a : Option A) (f : A → Option B) (g : B → Option C) → rust_then a (λ x. rust_then (f x) g) ≡ rust_then (rust_then a f) g
  then_then none f g = refl
  then_then (some x) f g = refl

  -- INSERT: rangemap's algorithm for inclusive ranges does not panic, its loop ends, and the map is then what `inserted` says
  pub inclusive_insert_is : (lo last v : ℕ) (m : List Span) → lo ≤ last → last ≤ greatest → Tidy 0 m → Upto (suc greatest) m
      → inclusive_insert add-one sub-one lo last v m ≡ some (inserted lo (suc last) v m)
  unfolding inclusive_insert begun
  inclusive_insert_is lo last v m h i t u =
      let p = part lo m in
      let back : suc last - 1 ≡ last = omega arith in
      let first = rw back at (started lo (suc last) v m (omega arith) (omega arith) (sound (suc greatest) 0 m t.ordered u)) in
      let ready : (n : List Span) → n ≡ p.left ++ p.right → Tidy 0 n
      → Prepared lo (suc last) v n (if_let (candidate lo (suc last) n) (λ x. adjust x v (state n lo (suc last))) (state n lo (suc last)))
      = λ n e w. rw e (prepare lo (suc last) v (omega arith) p.left p.ends p.right p.reaches (subst (Tidy 0) e w)) in
      rw (le-leb lo last h)
      (then_then (inclusive_candidate add-one sub-one lo last m) _ (inclusive_insert_body add-one sub-one v)
      ∙ ap (λ (s : Option State). rust_then s (inclusive_insert_body add-one sub-one v)) first
      ∙ inserts lo (suc last) v m _ (omega arith) t u (ready m p.whole t))

  pub inclusive_insert_panics : (lo last v : ℕ) (m : List Span) → last < lo → inclusive_insert add-one sub-one lo last v m ≡ none
  unfolding inclusive_insert
  inclusive_insert_panics lo last v m h = rw (lt-leb lo last h)

  -- REMOVE
  module _ (lo hi : ℕ) (real : lo < hi) where
    clearing : ℕ → List Span → Option (List Span)
    clearing n m = inclusive_remove_loop add-one sub-one n lo (hi - 1) m

    module _ (ls : List Span) (below : Below (suc lo) ls) where
      nothing_left : (n : ℕ) (rest : List Span) → 0 < n → Ordered hi rest → clearing n (ls ++ rest) ≡ some (ls ++ rest)
      unfolding clearing inclusive_remove_loop
      nothing_left zero rest f o = absurd (omega arith)
      nothing_left (suc n) rest f o = rw (
        starting_by_same lo hi (ls ++ rest) (omega arith),
        between_skip lo hi ls rest below,
        between_none lo hi hi rest real (omega arith) o,
      )

      trimmed : (n : ℕ) (x : Span) (xs : List Span) → lo < x.lo → x.lo < hi → x.lo < x.hi → x.hi ≤ suc greatest → Ordered x.hi xs
          → clearing (suc n) (ls ++ x ∷ xs) ≡ clearing n (ls ++ keep (span hi x.hi x.label) xs)
      unfolding clearing inclusive_remove_loop
      trimmed n x xs h i f u o = rw (
        starting_by_same lo hi (ls ++ x ∷ xs) (omega arith),
        between_skip lo hi ls (x ∷ xs) below,
        between_here lo hi x xs h i,
        cut_same x lo hi (ls ++ x ∷ xs) f u (omega arith),
        cut_clear x lo hi xs f real (omega arith) o ls (below_more ls h below) (omega arith),
      )

      the_clearing : Clearing (suc greatest) clearing ls lo hi
      the_clearing = record { out = nothing_left; trim = trimmed }

    removes : (m t : List Span) → Tidy 0 m → Upto (suc greatest) m → Cleared lo hi real m t
        → inclusive_remove_body add-one sub-one lo (hi - 1) t ≡ some (removed lo hi m)
    unfolding clearing
    removes m t tidy u p =
        rw p.is (cleared lo hi real (suc greatest) clearing m t tidy u p (the_clearing p.ls (below_ends lo hi real p.ls p.tidy p.ends)))

    -- up to the loop
    next_same : (m l : List Span) → Sound (suc greatest) l
        → if_let (next l) (λ x. inclusive_cut_out add-one sub-one x lo (hi - 1) m) (some m) ≡ some (if_let (next l) (λ x. cut_out x lo hi m) m)
    next_same m [] s = refl
    next_same m (x ∷ xs) s = cut_same x lo hi m s.0 s.1 (omega arith)

    cut_first : (m : List Span) → Sound (suc greatest) m
        → if_let (inclusive_remove_candidate add-one sub-one lo (hi - 1) m) (λ x. inclusive_cut_out add-one sub-one x lo (hi - 1) m) (some m)
        ≡ some (if_let (remove_candidate lo hi m) (λ x. cut_out x lo hi m) m)
    unfolding inclusive_remove_candidate remove_candidate
    cut_first m s =
        let near = taken 1 (reversed (up_to lo m)) in
        let u : Sound (suc greatest) near = sound_near (suc greatest) 1 lo m s in
        let test : Span → Bool = λ x. rust_ranges_overlap x.lo x.hi lo hi in
        rw (filtered_same (suc greatest) test (λ x. inclusive_ranges_overlap x.lo (x.hi - 1) lo (hi - 1)) near
        (λ x f t. overlap_same x.lo x.hi lo hi f real) u)
        (next_same m (filtered test near) (sound_filtered (suc greatest) test near u))

  -- REMOVE: rangemap's algorithm for inclusive ranges does not panic, its loop ends, and the map is then what `removed` says
  pub inclusive_remove_is : (lo last : ℕ) (m : List Span) → lo ≤ last → Tidy 0 m → Upto (suc greatest) m
      → inclusive_remove add-one sub-one lo last m ≡ some (removed lo (suc last) m)
  unfolding inclusive_remove
  inclusive_remove_is lo last m h t u =
      let p = part (suc lo) m in
      let back : suc last - 1 ≡ last = omega arith in
      let first = rw back at (cut_first lo (suc last) (omega arith) m (sound (suc greatest) 0 m t.ordered u)) in
      let ready : (n : List Span) → n ≡ p.left ++ p.right → Tidy 0 n
      → Cleared lo (suc last) (omega arith) n (if_let (remove_candidate lo (suc last) n) (λ x. cut_out x lo (suc last) n) n)
      = λ n e w. rw e (begin lo (suc last) (omega arith) p.left p.ends p.right p.reaches (subst (Tidy 0) e w)) in
      rw (le-leb lo last h, first) (rw back at (removes lo (suc last) (omega arith) m _ t u (ready m p.whole t)))

  pub inclusive_remove_panics : (lo last : ℕ) (m : List Span) → last < lo → inclusive_remove add-one sub-one lo last m ≡ none
  unfolding inclusive_remove
  inclusive_remove_panics lo last m h = rw (lt-leb lo last h)
