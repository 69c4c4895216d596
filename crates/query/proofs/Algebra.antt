-- THE ALGEBRA of results: queries that are true of the same held values have the same list of ranges, in any window, of any two maps.
use Prim.Native.Nat.{ℕ, ◌<◌}
use native.Mathlib.Omega.{arith}
use mathlib.Core.Path.{◌≡◌, refl, sym, ◌∙◌}
use mathlib.Core.Bool.{Bool, true, false, ◌&&◌, ◌||◌, not, cond}
use mathlib.Core.List.{List, [], ◌∷◌}
use mathlib.Core.Option.{Option, some, none}
use Rattle.span.specs.Span.{Span, span, inside, at, Tidy, Means}
use Rattle.span.specs.Operations.{within, chosen, is}
use Rattle.span.proofs.Holding.{ordered_from}
use Rattle.span.proofs.Laws.{reworded, nothing, itself}
use Rattle.span.proofs.Sets.{ordered_within, at_within, chosen_means}
use Rattle.query_text.specs.Grammar.{Query, first, second, no, both, either}
use Rattle.query_text.specs.Meaning.{holds_value, truth}
use Rattle.query_text.proofs.Alike as alike
use Rattle.query_text.proofs.Alike.{Alike}
use Rattle.query.specs.Result.{result, is_true, marked}
use Rattle.query.proofs.Result.{result_means, result_only}

-- marks of a test and its opposite, and of a digit in a window
never_both : (w t : Bool) → none ≡ marked (w && (t && not t))
never_both true true = refl
never_both true false = refl
never_both false t = refl

always_either : (w t : Bool) → marked w ≡ marked (w && (t || not t))
always_either true true = refl
always_either true false = refl
always_either false t = refl

chosen_mark : (w : Bool) (d : ℕ) (x : Option ℕ) → is d (cond w x none) ≡ marked (w && holds_value d x)
chosen_mark true d none = refl
chosen_mark true d (some v) = refl
chosen_mark false d x = refl

module _ (lo hi : ℕ) (a b : List Span) (real : lo < hi) (ta : Tidy 0 a) (tb : Tidy 0 b) where
  -- the result in this window, of these maps
  abbrev here : Query → List Span
  here q = result lo hi a b q

  at_window : (k : ℕ) → at (span lo hi 0 ∷ []) k ≡ marked (inside lo hi k)
  unfolding at
  at_window k = refl

  chosen_within : (d : ℕ) (m : List Span) → Tidy 0 m → Means (chosen d (within lo hi m)) (λ k. marked (inside lo hi k && holds_value d (at m k)))
  chosen_within d m t =
      let o = ordered_from {b = lo} {c = 0} (within lo hi m) (omega arith) (ordered_within lo hi m t.ordered) in
      reworded (chosen_means d (within lo hi m) o) (λ k. rw (at_within lo hi m k t.ordered) (chosen_mark (inside lo hi k) d (at m k)))

  -- SAME TRUTH, same ranges: each law below is this, of a law of truth
  pub same_truth : {p q : Query} → Alike p q → here p ≡ here q
  unfolding is_true
  same_truth {p} {q} h = result_only lo hi a b real ta tb q (here p) (reworded (result_means lo hi a b real ta tb p) (λ k. rw (h.same (at a k) (at b k))))

  -- `!!q` is q
  pub not_not : (q : Query) → here (no (no q)) ≡ here q
  not_not q = same_truth (alike.no_no q)

  -- DE MORGAN
  pub not_and : (p q : Query) → here (no (both p q)) ≡ here (either (no p) (no q))
  not_and p q = same_truth (alike.no_both p q)

  pub not_or : (p q : Query) → here (no (either p q)) ≡ here (both (no p) (no q))
  not_or p q = same_truth (alike.no_either p q)

  -- `q&q` is q, and `q|q` is q
  pub and_itself : (q : Query) → here (both q q) ≡ here q
  and_itself q = same_truth (alike.both_itself q)

  pub or_itself : (q : Query) → here (either q q) ≡ here q
  or_itself q = same_truth (alike.either_itself q)

  -- in any order
  pub and_swaps : (p q : Query) → here (both p q) ≡ here (both q p)
  and_swaps p q = same_truth (alike.both_swaps p q)

  pub or_swaps : (p q : Query) → here (either p q) ≡ here (either q p)
  or_swaps p q = same_truth (alike.either_swaps p q)

  -- in any groups
  pub and_groups : (p q r : Query) → here (both (both p q) r) ≡ here (both p (both q r))
  and_groups p q r = same_truth (alike.both_groups p q r)

  pub or_groups : (p q r : Query) → here (either (either p q) r) ≡ here (either p (either q r))
  or_groups p q r = same_truth (alike.either_groups p q r)

  -- each over the other
  pub and_spreads : (p q r : Query) → here (both p (either q r)) ≡ here (either (both p q) (both p r))
  and_spreads p q r = same_truth (alike.both_spreads p q r)

  pub or_spreads : (p q r : Query) → here (either p (both q r)) ≡ here (both (either p q) (either p r))
  or_spreads p q r = same_truth (alike.either_spreads p q r)

  -- and each absorbed by the other
  pub and_absorbs : (p q : Query) → here (both p (either p q)) ≡ here p
  and_absorbs p q = same_truth (alike.both_absorbs p q)

  pub or_absorbs : (p q : Query) → here (either p (both p q)) ≡ here p
  or_absorbs p q = same_truth (alike.either_absorbs p q)

  -- `q&!q` has no range, and `q|!q` is the whole window
  pub and_opposite : (q : Query) → here (both q (no q)) ≡ []
  unfolding is_true truth
  and_opposite q =
      sym (result_only lo hi a b real ta tb (both q (no q)) [] (reworded nothing (λ k. never_both (inside lo hi k) (truth q (at a k) (at b k)))))

  pub or_opposite : (q : Query) → here (either q (no q)) ≡ span lo hi 0 ∷ []
  unfolding is_true truth
  or_opposite q =
      let window : Tidy 0 (span lo hi 0 ∷ []) = record { ordered = (omega arith, real, tt); separate = (tt, tt) } in
      sym (result_only lo hi a b real ta tb (either q (no q)) (span lo hi 0 ∷ [])
      (reworded (itself window) (λ k. at_window k ∙ always_either (inside lo hi k) (truth q (at a k) (at b k)))))

  -- an atom has the instants of the window at which its map holds its digit
  pub first_chosen : (d : ℕ) → here (first d) ≡ chosen d (within lo hi a)
  unfolding is_true truth
  first_chosen d = sym (result_only lo hi a b real ta tb (first d) (chosen d (within lo hi a)) (chosen_within d a ta))

  pub second_chosen : (d : ℕ) → here (second d) ≡ chosen d (within lo hi b)
  unfolding is_true truth
  second_chosen d = sym (result_only lo hi a b real ta tb (second d) (chosen d (within lo hi b)) (chosen_within d b tb))
