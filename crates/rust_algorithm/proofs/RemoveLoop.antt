-- What is common to the removes of both kinds: the loop, from what a round of it does, and what comes before it.
use Prim.Native.Nat.{ℕ, zero, suc, ◌≤◌, ◌<◌}
use native.Mathlib.Omega.{arith}
use native.Mathlib.Decide.{dec_lt}
use mathlib.Core.Path.{◌≡◌, refl, ap, sym, ◌∙◌}
use mathlib.Core.List.{List, [], ◌∷◌, ◌++◌, append-nil}
use mathlib.Core.Bool.{cond}
use mathlib.Core.Option.{Option, some, none}
use lib.ListN.{length, length-append}
use Rattle.span.specs.Span.{Span, span, inside, at, Ordered, Upto, Separate, Tidy, Means, keep, removed}
use Rattle.span.proofs.Tests.{below, among, beyond, place, in_yes, in_no, in_same, lt_cases}
use Rattle.span.proofs.Holding.{at_app, at_keep, at_below, at_upto, or_none, ordered_from, upto_keep}
use Rattle.span.proofs.Laws.{only, itself, removed_means}
use Rattle.span.proofs.Pieces.{tidy_left, tidy_right, tidy_ahead, tidy_app}
use Rattle.span.proofs.Local.{EndsBefore}
use Rattle.rust_algorithm.specs.Btree.{if_let}
use Rattle.rust_algorithm.specs.Map.{cut_out, remove_candidate}
use Rattle.rust_algorithm.proofs.Entries.{Below, below_more, below_upto, below_first, cut_clear, cut_left}
use Rattle.rust_algorithm.proofs.Candidate.{Reaches, ends_snoc, remove_none, remove_first}
use Rattle.rust_algorithm.proofs.Held.{at_behind, at_head, upto_right, apart_alike, ahead_alike, ahead_ends}

-- from hi on, what is left of a range holds what it held
keep_after : (hi k : ℕ) (x : Span) (xs : List Span) → x.lo ≤ hi → hi ≤ k → at (keep (span hi x.hi x.label) xs) k ≡ at (x ∷ xs) k
keep_after hi k x xs h i = at_keep (span hi x.hi x.label) xs k ∙ at_head (span hi x.hi x.label) x xs k refl (in_same (omega arith) (omega arith))

-- A LOOP over what comes after ls: n rounds at most, and the entries. It stops where nothing starts in the range; it trims what does. No key is past top
pub record Clearing (top : ℕ) (go : ℕ → List Span → Option (List Span)) (ls : List Span) (lo hi : ℕ) : Type 0 where
  pub out : (n : ℕ) (rest : List Span) → 0 < n → Ordered hi rest → go n (ls ++ rest) ≡ some (ls ++ rest)
  pub trim : (n : ℕ) (x : Span) (xs : List Span) → lo < x.lo → x.lo < hi → x.lo < x.hi → x.hi ≤ top → Ordered x.hi xs
      → go (suc n) (ls ++ x ∷ xs) ≡ go n (ls ++ keep (span hi x.hi x.label) xs)

module _ (lo hi : ℕ) (real : lo < hi) where
  -- it ends, and what is left is tidy from hi on, and holds there what was held
  module _ (top : ℕ) (go : ℕ → List Span → Option (List Span)) (ls : List Span) (loop : Clearing top go ls lo hi) where
    record Cleared (n : ℕ) (rest : List Span) : Type 0 where
      left : List Span
      runs : go n (ls ++ rest) ≡ some (ls ++ left)
      tidy : Tidy hi left
      holds : (k : ℕ) → hi ≤ k → at left k ≡ at rest k

    ends_here : (n : ℕ) (rest : List Span) → 0 < n → Ordered hi rest → Separate rest → Cleared n rest
    ends_here n rest f o p = record { left = rest; runs = loop.out n rest f o; tidy = record { ordered = o; separate = p }; holds = λ k h. refl }

    clears : (n : ℕ) (rest : List Span) → Ordered (suc lo) rest → Separate rest → Upto top rest → length rest < n → Cleared n rest
    unfolding keep
    clears zero rest o p u f = absurd (omega arith)
    clears (suc n) [] o p u f = ends_here (suc n) [] (omega arith) tt tt
    clears (suc n) (x ∷ xs) o p u f = elim (dec_lt x.lo hi) [
      | yes h ↦
          let w : Cleared n (keep (span hi x.hi x.label) xs) = lt_cases hi x.hi (Cleared n)
          (λ r. ends_here n (span hi x.hi x.label ∷ xs) (omega arith) (omega arith, r, o.2)
          (apart_alike x (span hi x.hi x.label) xs refl refl p.0, p.1))
          (λ r. clears n xs (ordered_from xs (omega arith) o.2) p.1 u.1 (omega arith)) in
          record {
            left = w.left;
            runs = loop.trim n x xs o.0 h o.1 u.0 o.2 ∙ w.runs;
            tidy = w.tidy;
            holds = λ k i. w.holds k i
                ∙ keep_after hi k x xs (omega arith) i;
          }
      | no h ↦ ends_here (suc n) (x ∷ xs) (omega arith) (omega arith, o.1, o.2) p
    ]

  -- THE FIRST HALF, up to the loop: nothing but what comes after ls lies in the range
  pub record Prepared (m t : List Span) : Type 0 where
    pub ls : List Span
    pub rest : List Span
    pub is : t ≡ ls ++ rest
    pub tidy : Tidy 0 ls
    pub ends : EndsBefore (suc lo) ls
    pub from : Ordered (suc lo) rest
    pub separate : Separate rest
    pub fits : (c : ℕ) → Upto c m → Upto c rest
    pub first : (k : ℕ) → k < lo → at ls k ≡ at m k
    pub last : (k : ℕ) → hi ≤ k → at rest k ≡ at m k

  upto : (ls : List Span) → EndsBefore (suc lo) ls → Upto lo ls
  upto [] e = tt
  upto (x ∷ xs) e = (omega arith, upto xs e.1)

  ends_later : (c : ℕ) (ls : List Span) → lo < c → EndsBefore (suc lo) ls → EndsBefore c ls
  ends_later c [] h e = tt
  ends_later c (x ∷ xs) h e = (omega arith, ends_later c xs h e.1)

  tidy_gap : (ls left : List Span) → Tidy 0 ls → EndsBefore (suc lo) ls → Tidy hi left → Tidy 0 (ls ++ left)
  tidy_gap ls [] t e u = rw append-nil t
  tidy_gap ls (y ∷ ys) t e u = tidy_app ls y ys (omega arith) t (ahead_ends ls y (ends_later y.lo ls (omega arith) e)) u

  pub below_ends : (ls : List Span) → Tidy 0 ls → EndsBefore (suc lo) ls → Below (suc lo) ls
  below_ends ls t e = below_more ls (omega arith) (below_upto 0 lo ls t.ordered (upto ls e))

  -- so where the loop runs as said, the map is then what `removed` says
  pub body : (top : ℕ) (go : ℕ → List Span → Option (List Span)) (m t : List Span) → Tidy 0 m → Upto top m → (p : Prepared m t)
      → Clearing top go p.ls lo hi → go (suc (length (p.ls ++ p.rest))) (p.ls ++ p.rest) ≡ some (removed lo hi m)
  body top go m t tidy u p loop =
      let ls = p.ls in
      let by = upto ls p.ends in
      let w = clears top go ls loop (suc (length (ls ++ p.rest))) p.rest p.from p.separate (p.fits top u) (omega (arith, length-append ls p.rest)) in
      let means : Means (ls ++ w.left) (λ k. cond (inside lo hi k) none (at m k)) = record {
        tidy = tidy_gap ls w.left p.tidy p.ends w.tidy;
        holds = λ k. at_app ls w.left k ∙ elim (place lo hi k) [
          | below q ↦ rw (in_no lo hi k (omega arith), at_below w.left k w.tidy.ordered (omega arith), or_none) (p.first k q)
          | among q r ↦ rw (in_yes lo hi k (omega arith), at_below w.left k w.tidy.ordered r, at_upto lo ls k by q)
          | beyond q r ↦ rw (in_no lo hi k (omega arith), at_upto lo ls k by q) (w.holds k r ∙ p.last k r)
        ];
      } in
      rw w.runs (ap some (only means (removed_means lo hi real (itself tidy))))

  module _ (ls : List Span) (ends : EndsBefore (suc lo) ls) where
    behind : (ys : List Span) (k : ℕ) → lo ≤ k → at (ls ++ ys) k ≡ at ys k
    behind ys k h = at_app ls ys k ∙ rw (at_upto lo ls k (upto ls ends) h)

    ahead : (b : ℕ) (ys : List Span) (k : ℕ) → Ordered b ys → k < b → at ls k ≡ at (ls ++ ys) k
    ahead b ys k o h = sym (at_app ls ys k ∙ rw (at_below ys k o h) (or_none (at ls k)))

    -- no candidate
    clear : (rest : List Span) → Ordered (suc lo) rest → Tidy 0 (ls ++ rest) → Prepared (ls ++ rest) (ls ++ rest)
    clear rest o t = record {
      ls = ls;
      rest = rest;
      is = refl;
      tidy = tidy_left ls rest t;
      ends = ends;
      from = o;
      separate = (tidy_right ls rest t).separate;
      fits = λ c u. upto_right c ls rest u;
      first = λ k h. ahead (suc lo) rest k o (omega arith);
      last = λ k h. sym (behind rest k (omega arith));
    }

    -- a candidate
    module _ (x : Span) (xs : List Span) (by : x.lo ≤ lo) (to : lo < x.hi) (t : Tidy 0 (ls ++ x ∷ xs)) where
      right : Tidy 0 (x ∷ xs)
      right = tidy_right ls (x ∷ xs) t

      starts : Below x.lo ls
      starts = below_first 0 ls x xs t.ordered

      rest : List Span
      rest = keep (span hi x.hi x.label) xs

      from : Ordered (suc lo) rest
      unfolding rest keep
      from = lt_cases hi x.hi (Ordered (suc lo)) (λ r. (real, r, right.ordered.2)) (λ r. ordered_from xs to right.ordered.2)

      separate : Separate rest
      unfolding rest keep
      separate = lt_cases hi x.hi Separate (λ r. (apart_alike x (span hi x.hi x.label) xs refl refl right.separate.0, right.separate.1))
          (λ r. right.separate.1)

      fits : (c : ℕ) → Upto c (ls ++ x ∷ xs) → Upto c rest
      unfolding rest
      fits c u = let r = upto_right c ls (x ∷ xs) u in upto_keep c (span hi x.hi x.label) xs r.0 r.1

      last : (k : ℕ) → hi ≤ k → at rest k ≡ at (ls ++ x ∷ xs) k
      unfolding rest
      last k h = keep_after hi k x xs (omega arith) h ∙ sym (behind (x ∷ xs) k (omega arith))

      over : lo ≤ x.lo → Prepared (ls ++ x ∷ xs) (cut_out x lo hi (ls ++ x ∷ xs))
      unfolding rest
      over i = record {
        ls = ls;
        rest = rest;
        is = cut_clear x lo hi xs right.ordered.1 real (omega arith) right.ordered.2 ls starts i;
        tidy = tidy_left ls (x ∷ xs) t;
        ends = ends;
        from = from;
        separate = separate;
        fits = fits;
        first = λ k h. ahead lo (x ∷ xs) k (i, right.ordered.1, right.ordered.2) h;
        last = last;
      }

      across : x.lo < lo → Prepared (ls ++ x ∷ xs) (cut_out x lo hi (ls ++ x ∷ xs))
      unfolding rest at
      across i =
          let left = span x.lo lo x.label in
          record {
            ls = ls ++ left ∷ [];
            rest = rest;
            is = cut_left x lo hi xs right.ordered.1 real (omega arith) right.ordered.2 ls starts i;
            tidy = tidy_app {c = 0} ls left [] (omega arith) (tidy_left ls (x ∷ xs) t) (ahead_alike ls x left refl refl (tidy_ahead ls x xs t))
                (record { ordered = (omega arith, i, tt); separate = (tt, tt) });
            ends = ends_snoc (suc lo) ls left ends (omega arith);
            from = from;
            separate = separate;
            fits = fits;
            first = λ k h. at_behind ls (left ∷ []) (x ∷ xs) k
                (at_head left x [] k refl (in_same (omega arith) (omega arith))
                ∙ at_behind (x ∷ []) [] xs k (sym (at_below xs k right.ordered.2 (omega arith))));
            last = last;
          }

      overlapped : Prepared (ls ++ x ∷ xs) (cut_out x lo hi (ls ++ x ∷ xs))
      overlapped = elim (dec_lt x.lo lo) [ yes i ↦ across i | no i ↦ over (omega arith) ]

    pub prepare : (rest : List Span) → Reaches (suc lo) rest → Tidy 0 (ls ++ rest)
        → Prepared (ls ++ rest) (if_let (remove_candidate lo hi (ls ++ rest)) (λ x. cut_out x lo hi (ls ++ rest)) (ls ++ rest))
    prepare [] r t = rw (remove_none lo hi real ls ends [] tt) (clear [] tt t)
    prepare (x ∷ xs) r t = let o = (tidy_right ls (x ∷ xs) t).ordered in elim (dec_lt lo x.lo) [
      | yes p ↦ rw (remove_none lo hi real ls ends (x ∷ xs) (p, o.1, o.2)) (clear (x ∷ xs) (p, o.1, o.2) t)
      | no p ↦ rw (remove_first lo hi real ls ends x xs (omega arith) r o.2) (overlapped x xs (omega arith) r t)
    ]
