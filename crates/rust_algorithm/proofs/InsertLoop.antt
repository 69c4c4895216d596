-- What is common to the inserts of both kinds: the loop, from what a round of it does, and what comes before it.
use Prim.Native.Nat.{ℕ, zero, suc, ◌≤◌, ◌<◌, min, max}
use native.Mathlib.Omega.{arith}
use native.Mathlib.Decide.{dec_lt, ℕ_discrete}
use mathlib.Core.Path.{◌≡◌, refl, ap, sym, subst, ◌∙◌}
use mathlib.Core.List.{List, [], ◌∷◌, ◌++◌}
use mathlib.Core.Bool.{cond}
use mathlib.Core.Option.{Option, some}
use lib.ListN.{length, length-append}
use borrow.Author.Tests.{lt-ltb, le-ltb, eq-eqb, ne_eqb}
use Rattle.std.proofs.lemmas.List.{append_assoc}
use Rattle.span.specs.Span.{Span, span, inside, at, Ordered, Upto, Separate, Tidy, Means, keep, inserted}
use Rattle.span.proofs.Tests.{lt_cases}
use Rattle.span.proofs.Holding.{ordered_from, upto_keep}
use Rattle.span.proofs.Laws.{only, itself, inserted_means}
use Rattle.span.proofs.Pieces.{Ahead, tidy_left, tidy_right, tidy_ahead, tidy_app, ahead_snoc}
use Rattle.span.proofs.Local.{EndsBefore}
use Rattle.rust_algorithm.specs.Btree.{if_let, entered}
use Rattle.rust_algorithm.specs.Map.{State, state, rust_ranges_overlap, cut_out, adjust, candidate}
use Rattle.rust_algorithm.proofs.Entries.{Below, below_first}
use Rattle.rust_algorithm.proofs.Entries.{deleted_here, entered_here, cut_clear, cut_left}
use Rattle.rust_algorithm.proofs.Candidate.{Reaches, candidate_none, candidate_first}
use Rattle.rust_algorithm.proofs.Held.{upto_right, at_behind, at_laid, at_adopt, at_trim, at_split, at_swap, apart_alike, ahead_alike, ahead_ends}
use Rattle.rust_algorithm.proofs.Held.{upto_ends}

-- A LOOP over what comes after ls, and the last insert behind it: n rounds at most, the entries, the end of the range to insert, which starts at s and ended
-- at e
-- when the loop began. It stops where nothing starts by e; it stops where another value starts at e; it adopts an equal value; it trims another value. No key
-- is past top
pub record Loop (top : ℕ) (go : ℕ → List Span → ℕ → Option (List Span)) (ls : List Span) (s v e : ℕ) : Type 0 where
  pub out : (n f c : ℕ) (rest : List Span) → 0 < n → s < f → e < c → Ordered c rest → Upto top rest
      → go n (ls ++ rest) f ≡ some (entered (span s f v) (ls ++ rest))
  pub into : (n : ℕ) (x : Span) (xs : List Span) → 0 < n → x.lo ≡ e → (x.label ≡ v → ⊥) → x.lo < x.hi → x.hi ≤ top
      → go n (ls ++ x ∷ xs) e ≡ some (entered (span s e v) (ls ++ x ∷ xs))
  pub same : (n far : ℕ) (x : Span) (xs : List Span) → s ≤ x.lo → x.lo ≤ e → x.lo < x.hi → x.hi ≤ top → x.label ≡ v → max e x.hi ≡ far
      → go (suc n) (ls ++ x ∷ xs) e ≡ go n (ls ++ xs) far
  pub other : (n : ℕ) (x : Span) (xs : List Span) → s ≤ x.lo → x.lo < e → x.lo < x.hi → x.hi ≤ top → Ordered x.hi xs → (x.label ≡ v → ⊥)
      → go (suc n) (ls ++ x ∷ xs) e ≡ go n (ls ++ keep (span e x.hi x.label) xs) e

-- it ends, with what is tidy behind the range to insert and holds what was held
module _ (top : ℕ) (go : ℕ → List Span → ℕ → Option (List Span)) (ls : List Span) (s v e : ℕ) (loop : Loop top go ls s v e) (real : s < e) where
  record Swallowed (n f : ℕ) (rest : List Span) : Type 0 where
    far : ℕ
    left : List Span
    runs : go n (ls ++ rest) f ≡ some (entered (span s far v) (ls ++ left))
    tidy : Tidy s (span s far v ∷ left)
    holds : (k : ℕ) → at (span s far v ∷ left) k ≡ at (span s f v ∷ rest) k

  ends_here : (n f c : ℕ) (rest : List Span) → 0 < n → s < f → e < c → Ordered c rest → Upto top rest → Tidy s (span s f v ∷ rest) → Swallowed n f rest
  ends_here n f c rest p r i o u t = record { far = f; left = rest; runs = loop.out n f c rest p r i o u; tidy = t; holds = λ k. refl }

  breaks_here : (n : ℕ) (x : Span) (xs : List Span) → 0 < n → x.lo ≡ e → (x.label ≡ v → ⊥) → x.lo < x.hi → x.hi ≤ top → Ordered x.hi xs
      → Separate (x ∷ xs) → Swallowed n e (x ∷ xs)
  breaks_here n x xs f i j full u o p = record {
    far = e;
    left = x ∷ xs;
    runs = loop.into n x xs f i j full u;
    tidy = record { ordered = (omega arith, real, (omega arith, full, o)); separate = ((λ w. j (sym w.alike)), p) };
    holds = λ k. refl;
  }

  again : (n f far : ℕ) (rest more : List Span) → go (suc n) (ls ++ rest) f ≡ go n (ls ++ more) far
      → ((k : ℕ) → at (span s far v ∷ more) k ≡ at (span s f v ∷ rest) k) → Swallowed n far more → Swallowed (suc n) f rest
  again n f far rest more run same w = record { far = w.far; left = w.left; runs = run ∙ w.runs; tidy = w.tidy; holds = λ k. w.holds k ∙ same k }

  adopted : (far : ℕ) (x : Span) (xs : List Span) → s ≤ x.lo → x.lo ≤ e → x.lo < x.hi → x.label ≡ v → max e x.hi ≡ far → (k : ℕ)
      → at (span s far v ∷ xs) k ≡ at (span s e v ∷ x ∷ xs) k
  adopted far x xs i j f l m k =
      let start : min s x.lo ≡ s = omega arith in
      rw (start, m) at (at_adopt s e v x xs k real f j (omega arith) l)

  swallow : (n : ℕ) (rest : List Span) → Ordered s rest → Separate rest → Upto top rest → length rest < n → Swallowed n e rest
  unfolding keep
  swallow zero rest o p u f = absurd (omega arith)
  swallow (suc n) [] o p u f =
      ends_here (suc n) e (suc e) [] (omega arith) real (omega arith) tt tt (record { ordered = (omega arith, real, tt); separate = (tt, tt) })
  swallow (suc n) (x ∷ xs) o p u f = elim (dec_lt e x.lo) [
    | yes past ↦ ends_here (suc n) e (suc e) (x ∷ xs) (omega arith) real (omega arith) (past, o.1, o.2) u
        (record { ordered = (omega arith, real, (omega arith, o.1, o.2)); separate = ((λ w. omega arith), p) })
    | no by ↦ elim (ℕ_discrete x.label v) [
      | yes l ↦ elim (dec_lt e x.hi) [
        | yes q ↦ again n e x.hi (x ∷ xs) xs (loop.same n x.hi x xs o.0 (omega arith) o.1 u.0 l (omega arith))
            (adopted x.hi x xs o.0 (omega arith) o.1 l (omega arith))
            (ends_here n x.hi x.hi xs (omega arith) (omega arith) q o.2 u.1 (record {
              ordered = (omega arith, omega arith, o.2);
              separate = (apart_alike x (span s x.hi v) xs refl l p.0, p.1);
            }))
        | no q ↦ again n e e (x ∷ xs) xs (loop.same n e x xs o.0 (omega arith) o.1 u.0 l (omega arith))
            (adopted e x xs o.0 (omega arith) o.1 l (omega arith))
            (swallow n xs (ordered_from xs (omega arith) o.2) p.1 u.1 (omega arith))
      ]
      | no l ↦ elim (dec_lt x.lo e) [
        | yes q ↦ again n e e (x ∷ xs) (keep (span e x.hi x.label) xs) (loop.other n x xs o.0 q o.1 u.0 o.2 l)
            (λ k. at_trim s e v x xs k real o.1 o.0 (omega arith))
            (lt_cases e x.hi (Swallowed n e)
            (λ r. breaks_here n (span e x.hi x.label) xs (omega arith) refl l r u.0 o.2
            (apart_alike x (span e x.hi x.label) xs refl refl p.0, p.1))
            (λ r. swallow n xs (ordered_from xs (omega arith) o.2) p.1 u.1 (omega arith)))
        | no q ↦ breaks_here (suc n) x xs (omega arith) (omega arith) l o.1 u.0 o.2 p
      ]
    ]
  ]

-- ADJUST, of the first of what comes after ls
module _ (ls : List Span) (x : Span) (xs : List Span) (s e v : ℕ) (below : Below x.lo ls) where
  pub adjust_same : x.label ≡ v → adjust x v (state (ls ++ x ∷ xs) s e) ≡ state (ls ++ xs) (min s x.lo) (max e x.hi)
  unfolding adjust
  adjust_same l = rw (eq-eqb x.label v l, deleted_here ls x xs below)

  pub adjust_over : (x.label ≡ v → ⊥) → max s x.lo < min e x.hi → adjust x v (state (ls ++ x ∷ xs) s e) ≡ state (cut_out x s e (ls ++ x ∷ xs)) s e
  unfolding adjust rust_ranges_overlap
  adjust_over n h = rw (ne_eqb x.label v n, lt-ltb (max s x.lo) (min e x.hi) h)

  pub adjust_apart : (x.label ≡ v → ⊥) → min e x.hi ≤ max s x.lo → adjust x v (state (ls ++ x ∷ xs) s e) ≡ state (ls ++ x ∷ xs) s e
  unfolding adjust rust_ranges_overlap
  adjust_apart n h = rw (ne_eqb x.label v n, le-ltb (max s x.lo) (min e x.hi) h)

-- THE FIRST HALF, up to the loop: the range to insert, laid over what comes after ls, holds what is to be held
pub record Prepared (lo hi v : ℕ) (m : List Span) (t : State) : Type 0 where
  pub ls : List Span
  pub rest : List Span
  pub s : ℕ
  pub e : ℕ
  pub is : t ≡ state (ls ++ rest) s e
  pub real : s < e
  pub tidy : Tidy 0 ls
  pub ahead : Ahead ls (span s e v)
  pub from : Ordered s rest
  pub separate : Separate rest
  pub fits : (c : ℕ) → Upto c m → Upto c rest
  pub holds : (k : ℕ) → at (ls ++ span s e v ∷ rest) k ≡ cond (inside lo hi k) (some v) (at m k)

pub below_ahead : (b : ℕ) (ls : List Span) (y : Span) → Ordered b ls → Ahead ls y → Below y.lo ls
below_ahead b [] y o a = tt
below_ahead b (x ∷ xs) y o a = (omega (arith, a.0.past), below_ahead x.hi xs y o.2 a.1)

-- so where the loop runs as said, the map is then what `inserted` says
pub body : (top : ℕ) (go : ℕ → List Span → ℕ → Option (List Span)) (lo hi v : ℕ) (m : List Span) (t : State) → lo < hi → Tidy 0 m → Upto top m
    → (p : Prepared lo hi v m t)
    → Loop top go p.ls p.s v p.e → go (suc (length (p.ls ++ p.rest))) (p.ls ++ p.rest) p.e ≡ some (inserted lo hi v m)
body top go lo hi v m t h tidy u p loop =
    let ls = p.ls in
    let s = p.s in
    let below : Below s ls = below_ahead 0 ls (span s p.e v) p.tidy.ordered p.ahead in
    let w = swallow top go ls s v p.e loop p.real (suc (length (ls ++ p.rest))) p.rest p.from p.separate (p.fits top u)
    (omega (arith, length-append ls p.rest)) in
    let new = span s w.far v in
    let means : Means (ls ++ new ∷ w.left) (λ k. cond (inside lo hi k) (some v) (at m k)) = record {
      tidy = tidy_app ls new w.left (omega arith) p.tidy (ahead_alike ls (span s p.e v) new refl refl p.ahead) w.tidy;
      holds = λ k. at_behind ls (new ∷ w.left) (span s p.e v ∷ p.rest) k (w.holds k) ∙ p.holds k;
    } in
    rw (w.runs, entered_here ls new w.left below (ordered_from w.left w.tidy.ordered.1 w.tidy.ordered.2))
    (ap some (only means (inserted_means lo hi v h (itself tidy))))

module _ (lo hi v : ℕ) (real : lo < hi) (ls : List Span) (ends : EndsBefore lo ls) where
  upto : Upto lo ls
  upto = upto_ends lo ls ends

  -- no candidate
  clear : (rest : List Span) → Ordered (suc lo) rest → Tidy 0 (ls ++ rest) → Prepared lo hi v (ls ++ rest) (state (ls ++ rest) lo hi)
  clear rest o t = record {
    ls = ls;
    rest = rest;
    s = lo;
    e = hi;
    is = refl;
    real = real;
    tidy = tidy_left ls rest t;
    ahead = ahead_ends ls (span lo hi v) ends;
    from = ordered_from rest (omega arith) o;
    separate = (tidy_right ls rest t).separate;
    fits = λ c u. upto_right c ls rest u;
    holds = λ k. at_laid ls rest lo hi v k upto;
  }

  -- a candidate
  module _ (x : Span) (xs : List Span) (by : x.lo ≤ lo) (to : lo ≤ x.hi) (t : Tidy 0 (ls ++ x ∷ xs)) where
    right : Tidy 0 (x ∷ xs)
    right = tidy_right ls (x ∷ xs) t

    below : Below x.lo ls
    below = below_first 0 ls x xs t.ordered

    laid : (ns : List Span) (k : ℕ) → at ns k ≡ at (span lo hi v ∷ x ∷ xs) k → at (ls ++ ns) k ≡ cond (inside lo hi k) (some v) (at (ls ++ x ∷ xs) k)
    laid ns k e = at_behind ls ns (span lo hi v ∷ x ∷ xs) k e ∙ at_laid ls (x ∷ xs) lo hi v k upto

    adopt : x.label ≡ v → Prepared lo hi v (ls ++ x ∷ xs) (adjust x v (state (ls ++ x ∷ xs) lo hi))
    adopt l = record {
      ls = ls;
      rest = xs;
      s = min lo x.lo;
      e = max hi x.hi;
      is = adjust_same ls x xs lo hi v below l;
      real = omega arith;
      tidy = tidy_left ls (x ∷ xs) t;
      ahead = ahead_alike ls x (span (min lo x.lo) (max hi x.hi) v) (omega arith) l (tidy_ahead ls x xs t);
      from = ordered_from xs (omega (arith, right.ordered.1)) right.ordered.2;
      separate = right.separate.1;
      fits = λ c u. (upto_right c ls (x ∷ xs) u).1;
      holds = λ k. laid (span (min lo x.lo) (max hi x.hi) v ∷ xs) k (at_adopt lo hi v x xs k real right.ordered.1 (omega arith) to l);
    }

    -- it ends where the new range starts
    beside : (x.label ≡ v → ⊥) → x.hi ≡ lo → Prepared lo hi v (ls ++ x ∷ xs) (adjust x v (state (ls ++ x ∷ xs) lo hi))
    beside n h = record {
      ls = ls ++ x ∷ [];
      rest = xs;
      s = lo;
      e = hi;
      is = adjust_apart ls x xs lo hi v below n (omega arith) ∙ ap (λ m. state m lo hi) (sym (append_assoc ls (x ∷ []) xs));
      real = real;
      tidy = tidy_left (ls ++ x ∷ []) xs (subst (Tidy 0) (sym (append_assoc ls (x ∷ []) xs)) t);
      ahead = ahead_snoc ls x (span lo hi v) right.ordered.1 (tidy_ahead ls x xs t) (record { past = omega arith; apart = λ j. n j.alike });
      from = ordered_from xs (omega arith) right.ordered.2;
      separate = right.separate.1;
      fits = λ c u. (upto_right c ls (x ∷ xs) u).1;
      holds = λ k. ap (λ m. at m k) (append_assoc ls (x ∷ []) (span lo hi v ∷ xs))
          ∙ laid (x ∷ span lo hi v ∷ xs) k (at_swap lo hi v x xs k real right.ordered.1 (omega arith));
    }

    -- it reaches past that
    rest : List Span
    rest = keep (span hi x.hi x.label) xs

    from : Ordered lo rest
    unfolding rest keep
    from = lt_cases hi x.hi (Ordered lo) (λ r. (omega arith, r, right.ordered.2)) (λ r. ordered_from xs to right.ordered.2)

    separate : Separate rest
    unfolding rest keep
    separate = lt_cases hi x.hi Separate (λ r. (apart_alike x (span hi x.hi x.label) xs refl refl right.separate.0, right.separate.1))
        (λ r. right.separate.1)

    fits : (c : ℕ) → Upto c (ls ++ x ∷ xs) → Upto c rest
    unfolding rest
    fits c u = let r = upto_right c ls (x ∷ xs) u in upto_keep c (span hi x.hi x.label) xs r.0 r.1

    over : (x.label ≡ v → ⊥) → lo < x.hi → lo ≤ x.lo → Prepared lo hi v (ls ++ x ∷ xs) (adjust x v (state (ls ++ x ∷ xs) lo hi))
    unfolding rest
    over n h i = record {
      ls = ls;
      rest = rest;
      s = lo;
      e = hi;
      is = adjust_over ls x xs lo hi v below n (omega (arith, right.ordered.1))
          ∙ ap (λ m. state m lo hi) (cut_clear x lo hi xs right.ordered.1 real (omega arith) right.ordered.2 ls below i);
      real = real;
      tidy = tidy_left ls (x ∷ xs) t;
      ahead = ahead_ends ls (span lo hi v) ends;
      from = from;
      separate = separate;
      fits = fits;
      holds = λ k. laid (span lo hi v ∷ rest) k (at_trim lo hi v x xs k real right.ordered.1 i (omega arith));
    }

    across : (x.label ≡ v → ⊥) → lo < x.hi → x.lo < lo → Prepared lo hi v (ls ++ x ∷ xs) (adjust x v (state (ls ++ x ∷ xs) lo hi))
    unfolding rest
    across n h i =
        let left = span x.lo lo x.label in
        let ahead = ahead_alike ls x left refl refl (tidy_ahead ls x xs t) in
        record {
          ls = ls ++ left ∷ [];
          rest = rest;
          s = lo;
          e = hi;
          is = adjust_over ls x xs lo hi v below n (omega (arith, right.ordered.1))
              ∙ ap (λ m. state m lo hi) (cut_left x lo hi xs right.ordered.1 real (omega arith) right.ordered.2 ls below i);
          real = real;
          tidy = tidy_app {c = 0} ls left [] (omega arith) (tidy_left ls (x ∷ xs) t) ahead (record { ordered = (omega arith, i, tt); separate = (tt, tt) });
          ahead = ahead_snoc ls left (span lo hi v) i ahead (record { past = omega arith; apart = λ j. n j.alike });
          from = from;
          separate = separate;
          fits = fits;
          holds = λ k. ap (λ m. at m k) (append_assoc ls (left ∷ []) (span lo hi v ∷ rest))
              ∙ laid (left ∷ span lo hi v ∷ rest) k (at_split lo hi v x xs k real right.ordered.1 by to);
        }

    touched : Prepared lo hi v (ls ++ x ∷ xs) (adjust x v (state (ls ++ x ∷ xs) lo hi))
    touched = elim (ℕ_discrete x.label v) [
      | yes l ↦ adopt l
      | no n ↦ elim (dec_lt lo x.hi) [
        | yes h ↦ elim (dec_lt x.lo lo) [ yes i ↦ across n h i | no i ↦ over n h (omega arith) ]
        | no h ↦ beside n (omega arith)
      ]
    ]

  pub prepare : (rest : List Span) → Reaches lo rest → Tidy 0 (ls ++ rest)
      → Prepared lo hi v (ls ++ rest) (if_let (candidate lo hi (ls ++ rest)) (λ x. adjust x v (state (ls ++ rest) lo hi)) (state (ls ++ rest) lo hi))
  prepare [] r t = rw (candidate_none lo hi real ls ends [] tt) (clear [] tt t)
  prepare (x ∷ xs) r t = let o = (tidy_right ls (x ∷ xs) t).ordered in elim (dec_lt lo x.lo) [
    | yes p ↦ rw (candidate_none lo hi real ls ends (x ∷ xs) (p, o.1, o.2)) (clear (x ∷ xs) (p, o.1, o.2) t)
    | no p ↦ rw (candidate_first lo hi real ls ends x xs (omega arith) r o.2) (touched x xs (omega arith) r t)
  ]
