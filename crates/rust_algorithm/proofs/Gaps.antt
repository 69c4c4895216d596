-- What rangemap's gaps gives is `uncovered`.
use Prim.Native.Nat.{ℕ, zero, suc, ◌≤◌, ◌<◌}
use native.Mathlib.Omega.{arith}
use native.Mathlib.Decide.{dec_lt}
use mathlib.Core.Path.{◌≡◌, refl, ap, sym, ◌∙◌}
use mathlib.Core.List.{List, [], ◌∷◌}
use mathlib.Core.Bool.{cond}
use mathlib.Core.Option.{Option, some, none}
use lib.Dec.{leb}
use lib.ListN.{length}
use borrow.Author.Tests.{lt-ltb, le-ltb, le-leb, lt-leb}
use Rattle.span.specs.Span.{Span, span, inside, at, Ordered, Apart, Tidy, Means, keep}
use Rattle.span.specs.Operations.{uncovered, unless}
use Rattle.span.proofs.Tests.{cases, in_yes, in_no, in_same, in_cases, lt_cases, below, among, beyond, place}
use Rattle.span.proofs.Holding.{at_in, at_out, at_keep, at_below, ordered_from}
use Rattle.span.proofs.Laws.{only}
use Rattle.span.proofs.Sets.{gaps_means}
use Rattle.rust_algorithm.specs.Btree.{filtered}
use Rattle.rust_algorithm.specs.Map.{ending_past, GapStep, gap_step, tail_gap, next_gap, given_first, collect_gaps, map_gaps}

-- GAPS: what the iterator gives, read off the entries
unfoldable pub free : ℕ → ℕ → List Span → List Span
free e c [] = keep (span c e 0) []
free e c (x ∷ xs) = cond (leb e x.lo) (keep (span c e 0) []) (keep (span c x.lo 0) (free e x.hi xs))

turn : (n e c : ℕ) (xs : List Span) (s : GapStep) → next_gap e c xs ≡ s
    → collect_gaps (suc n) e c xs ≡ given_first s.gap (collect_gaps n e s.candidate s.iter)
unfolding collect_gaps
turn n e c xs s h = ap (λ (s : GapStep). given_first s.gap (collect_gaps n e s.candidate s.iter)) h

same_turn : (n e c d : ℕ) (xs ys : List Span) → next_gap e c xs ≡ next_gap e d ys → collect_gaps (suc n) e c xs ≡ collect_gaps (suc n) e d ys
unfolding collect_gaps
same_turn n e c d xs ys h = ap (λ (s : GapStep). given_first s.gap (collect_gaps n e s.candidate s.iter)) h

-- what Gaps::next does
module _ (e c : ℕ) where
  next_none : next_gap e c [] ≡ tail_gap e c []
  unfolding next_gap
  next_none = refl

  module _ (x : Span) (xs : List Span) where
    next_past : e ≤ x.lo → next_gap e c (x ∷ xs) ≡ tail_gap e c xs
    unfolding next_gap
    next_past h = rw (le-leb e x.lo h)

    next_yes : x.lo < e → c < x.lo → next_gap e c (x ∷ xs) ≡ gap_step (some (span c x.lo 0)) x.hi xs
    unfolding next_gap
    next_yes h i = rw (lt-leb e x.lo h, lt-ltb c x.lo i)

    next_no : x.lo < e → x.lo ≤ c → next_gap e c (x ∷ xs) ≡ next_gap e x.hi xs
    unfolding next_gap
    next_no h i = rw (lt-leb e x.lo h, le-ltb c x.lo i)

  tail_yes : (xs : List Span) → c < e → tail_gap e c xs ≡ gap_step (some (span c e 0)) e xs
  unfolding tail_gap
  tail_yes xs h = rw (lt-ltb c e h)

  tail_no : (xs : List Span) → e ≤ c → tail_gap e c xs ≡ gap_step none c xs
  unfolding tail_gap
  tail_no xs h = rw (le-ltb c e h)

-- at the end of the query range it has ended
over : (n e : ℕ) (xs : List Span) → Ordered e xs → collect_gaps (suc n) e e xs ≡ some []
over n e [] o = turn n e e [] _ (next_none e e ∙ tail_no e e [] (omega arith))
over n e (x ∷ xs) o = turn n e e (x ∷ xs) _ (next_past e e x xs o.0 ∙ tail_no e e xs (omega arith))

ends : (n e c : ℕ) (xs rest : List Span) → next_gap e c xs ≡ tail_gap e c rest → Ordered e rest
    → collect_gaps (suc (suc n)) e c xs ≡ some (keep (span c e 0) [])
unfolding keep
ends n e c xs rest h o = elim (dec_lt c e) [
  | yes p ↦ turn (suc n) e c xs _ (h ∙ tail_yes e c rest p) ∙ rw (over n e rest o, lt-ltb c e p)
  | no p ↦ turn (suc n) e c xs _ (h ∙ tail_no e c rest (omega arith)) ∙ rw (le-ltb c e (omega arith))
]

collects : (n e c b : ℕ) (xs : List Span) → Ordered b xs → suc (length xs) < n → collect_gaps n e c xs ≡ some (free e c xs)
unfolding free keep
collects zero e c b xs o h = absurd (omega arith)
collects (suc zero) e c b xs o h = absurd (omega arith)
collects (suc (suc n)) e c b [] o h = ends n e c [] [] (next_none e c) tt
collects (suc (suc n)) e c b (x ∷ xs) o h = elim (dec_lt x.lo e) [
  | yes p ↦ elim (dec_lt c x.lo) [
    | yes q ↦ turn (suc n) e c (x ∷ xs) _ (next_yes e c x xs p q) ∙ rw (
      collects (suc n) e x.hi x.hi xs o.2 (omega arith),
      lt-leb e x.lo p,
      lt-ltb c x.lo q,
    )
    | no q ↦ rw (
      lt-leb e x.lo p,
      le-ltb c x.lo (omega arith),
    ) (same_turn (suc n) e c x.hi (x ∷ xs) xs (next_no e c x xs p (omega arith)) ∙ collects (suc (suc n)) e x.hi x.hi xs o.2 (omega arith))
  ]
  | no p ↦ rw (le-leb e x.lo (omega arith)) (ends n e c (x ∷ xs) xs (next_past e c x xs (omega arith)) (ordered_from xs (omega arith) o.2))
]

-- what it gives is tidy, and holds what is free. The entries end past c
abbrev pub Past : ℕ → List Span → Type 0
Past c [] = Unit {0}
Past c (x ∷ xs) = c < x.hi

past_ordered : (b : ℕ) (xs : List Span) → Ordered b xs → Past b xs
past_ordered b [] o = tt
past_ordered b (x ∷ xs) o = omega arith

tidy_one : (c e : ℕ) → Tidy c (keep (span c e 0) [])
unfolding keep
tidy_one c e = lt_cases c e (Tidy c) (λ p. record { ordered = (omega arith, p, tt); separate = (tt, tt) }) (λ p. record { ordered = tt; separate = tt })

apart_later : (x : Span) (b : ℕ) (m : List Span) → x.hi < b → Ordered b m → Apart x m
apart_later x b [] h o = tt
apart_later x b (y ∷ ys) h o = λ j. omega arith

tidy_free : (e c b : ℕ) (xs : List Span) → Ordered b xs → Past c xs → Tidy c (free e c xs)
unfolding free keep
tidy_free e c b [] o p = tidy_one c e
tidy_free e c b (x ∷ xs) o p =
    let t = tidy_free e x.hi x.hi xs o.2 (past_ordered x.hi xs o.2) in
    let first = span c x.lo 0 in
    cases (leb e x.lo) (Tidy c) (λ q. tidy_one c e) (λ q. lt_cases c x.lo (Tidy c)
    (λ r. record {
      ordered = (omega arith, r, ordered_from (free e x.hi xs) (omega arith) t.ordered);
      separate = (
        apart_later first x.hi
            (free e x.hi xs) o.1 t.ordered,
        t.separate,
      );
    })
    (λ r. record { ordered = ordered_from (free e x.hi xs) (omega arith) t.ordered; separate = t.separate }))

abbrev wanted : ℕ → ℕ → List Span → ℕ → Option ℕ
wanted c e m k = unless (at m k) (cond (inside c e k) (some 0) none)

unless_none : (a : Option ℕ) → unless a none ≡ none
unless_none none = refl
unless_none (some v) = refl

at_one : (c e : ℕ) (k : ℕ) → at (keep (span c e 0) []) k ≡ cond (inside c e k) (some 0) none
unfolding at
at_one c e k = at_keep (span c e 0) [] k

past_last : (e c : ℕ) (x : Span) (xs : List Span) (k : ℕ) → Ordered x.lo (x ∷ xs) → e ≤ x.lo → cond (inside c e k) (some 0) none ≡ wanted c e (x ∷ xs) k
past_last e c x xs k o h = in_cases c e k (λ a. a ≡ unless (at (x ∷ xs) k) a)
    (λ w. rw (at_below {b = x.lo} (x ∷ xs) k o (omega arith)))
    (λ n. sym (unless_none (at (x ∷ xs) k)))

past_one : (e c : ℕ) (x : Span) (xs ys : List Span) (k : ℕ) → x.lo < e → c < x.hi → x.lo < x.hi → Ordered x.hi xs → at ys k ≡ wanted x.hi e xs k
    → at (span c x.lo 0 ∷ ys) k ≡ wanted c e (x ∷ xs) k
past_one e c x xs ys k h i f o ih =
    let first = span c x.lo 0 in
    elim (place x.lo x.hi k) [
      | below p ↦ elim (dec_lt k c) [
        | yes q ↦ at_out first ys k (omega arith) ∙ ih ∙ rw (
          at_out x xs k (omega arith),
          at_below xs k o (omega arith),
          in_no x.hi e k (omega arith),
          in_no c e k (omega arith),
        )
        | no q ↦ at_in first ys k (omega arith) ∙ rw (at_out x xs k (omega arith), at_below xs k o (omega arith), in_yes c e k (omega arith))
      ]
      | among p q ↦ at_out first ys k (omega arith) ∙ ih ∙ rw (at_in x xs k (omega arith), at_below xs k o q, in_no x.hi e k (omega arith))
      | beyond p q ↦
          let same : inside x.hi e k ≡ inside c e k = in_same (omega arith) (omega arith) in
          at_out first ys k (omega arith) ∙ ih ∙ rw (at_out x xs k (omega arith), same)
    ]

at_free : (e c b : ℕ) (xs : List Span) (k : ℕ) → Ordered b xs → Past c xs → at (free e c xs) k ≡ wanted c e xs k
unfolding free at
at_free e c b [] k o p = at_one c e k
at_free e c b (x ∷ xs) k o p =
    let ih = at_free e x.hi x.hi xs k o.2 (past_ordered x.hi xs o.2) in
    elim (dec_lt x.lo e) [
      | yes q ↦ rw (lt-leb e x.lo q) (at_keep (span c x.lo 0) (free e x.hi xs) k ∙ past_one e c x xs (free e x.hi xs) k q p o.1 o.2 ih)
      | no q ↦ rw (le-leb e x.lo (omega arith)) (at_one c e k ∙ past_last e c x xs k (omega arith, o.1, o.2) (omega arith))
    ]

-- the entries that end past s
pub ordered_past : (s b : ℕ) (m : List Span) → Ordered b m → Ordered b (ending_past s m)
unfolding ending_past filtered
ordered_past s b [] o = tt
ordered_past s b (x ∷ xs) o = let ih = ordered_past s x.hi xs o.2 in
    lt_cases s x.hi (Ordered b) (λ p. (o.0, o.1, ih)) (λ p. ordered_from (ending_past s xs) (omega arith) ih)

pub past_past : (s : ℕ) (m : List Span) → Past s (ending_past s m)
unfolding ending_past filtered
past_past s [] = tt
past_past s (x ∷ xs) = let ih = past_past s xs in lt_cases s x.hi (Past s) (λ p. p) (λ p. ih)

at_past : (s : ℕ) (m : List Span) (k : ℕ) → s ≤ k → at (ending_past s m) k ≡ at m k
unfolding ending_past filtered at
at_past s [] k h = refl
at_past s (x ∷ xs) k h = let ih = at_past s xs k h in
    lt_cases s x.hi (λ (m : List Span). at m k ≡ at (x ∷ xs) k) (λ p. rw ih) (λ p. ih ∙ sym (at_out x xs k (omega arith)))

pub free_is : (lo hi : ℕ) (m : List Span) → lo < hi → Ordered 0 m → free hi lo (ending_past lo m) ≡ uncovered lo hi m
free_is lo hi m h o =
    let near = ending_past lo m in
    let p = ordered_past lo 0 m o in
    let t = tidy_free hi lo 0 near p (past_past lo m) in
    let means : Means (free hi lo near) (wanted lo hi m) = record {
      tidy = record { ordered = ordered_from (free hi lo near) (omega arith) t.ordered; separate = t.separate };
      holds = λ k. at_free hi lo 0 near k p (past_past lo m) ∙ in_cases lo hi k (λ a. unless (at near k) a ≡ unless (at m k) a)
          (λ w. rw (at_past lo m k w.from))
          (λ n. unless_none (at near k) ∙ sym (unless_none (at m k)));
    } in
    only means (gaps_means lo hi 0 m h o)

-- GAPS: the iterator ends, and what it gives is what `uncovered` says
pub gaps_is : (lo hi : ℕ) (m : List Span) → lo < hi → Ordered 0 m → map_gaps lo hi m ≡ some (uncovered lo hi m)
unfolding map_gaps
gaps_is lo hi m h o =
    collects (suc (suc (length (ending_past lo m)))) hi lo 0 (ending_past lo m) (ordered_past lo 0 m o) (omega arith) ∙ ap some (free_is lo hi m h o)

-- of an empty range it gives nothing
pub free_empty : (lo hi b : ℕ) (xs : List Span) → hi ≤ lo → Ordered b xs → Past lo xs → free hi lo xs ≡ []
unfolding free keep
free_empty lo hi b [] h o p = rw (le-ltb lo hi h)
free_empty lo hi b (x ∷ xs) h o p = elim (dec_lt x.lo hi) [
  | yes q ↦ rw (lt-leb hi x.lo q, le-ltb lo x.lo (omega arith)) (free_empty x.hi hi x.hi xs (omega arith) o.2 (past_ordered x.hi xs o.2))
  | no q ↦ rw (le-leb hi x.lo (omega arith), le-ltb lo hi h)
]

pub gaps_empty : (lo hi : ℕ) (m : List Span) → hi ≤ lo → Ordered 0 m → map_gaps lo hi m ≡ some []
unfolding map_gaps
gaps_empty lo hi m h o =
    let p = ordered_past lo 0 m o in
    collects (suc (suc (length (ending_past lo m)))) hi lo 0 (ending_past lo m) p (omega arith)
    ∙ ap some (free_empty lo hi 0 (ending_past lo m) h p (past_past lo m))
