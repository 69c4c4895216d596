-- HOURS ADD UP: where a query is true and where it is not fill the window; windows that meet have together the result over both.
use Prim.Native.Nat.{ℕ, ◌+◌, ◌-◌, ◌<◌}
use native.Mathlib.Omega.{arith}
use mathlib.Core.Path.{◌≡◌, refl, sym, ◌∙◌}
use mathlib.Core.Bool.{Bool, true, false, ◌&&◌, ◌||◌, not}
use mathlib.Core.List.{List, [], ◌∷◌}
use mathlib.Core.Option.{some, none}
use Rattle.span.specs.Span.{Span, span, inside, at, Tidy}
use Rattle.span.specs.Operations.{span_total, tally}
use Rattle.span.proofs.Tests.{yes_in}
use Rattle.span.proofs.Local.{upto_at}
use Rattle.span.proofs.Total.{EndsBy, total_pairs}
use Rattle.query_text.specs.Grammar.{Query, no, both, either}
use Rattle.query_text.specs.Meaning.{truth}
use Rattle.query.specs.Result.{result, is_true, marked}
use Rattle.query.proofs.Result.{result_means}

-- what is marked in a window is in the window
marked_some : (w t : Bool) {v : ℕ} → marked (w && t) ≡ some v → w ≡ true
marked_some true t e = refl
marked_some false t e = absurd (let z : ◌≡◌ {A = ℕ} 0 1 = cc in omega arith)

-- a test and its opposite in a window are the window; two tests are as often true as both and either
split_mark : (w t : Bool) → tally (marked (w && t)) + tally (marked (w && not t)) ≡ tally (marked w) + tally none
split_mark true true = refl
split_mark true false = refl
split_mark false t = refl

pair_mark : (w s t : Bool) → tally (marked (w && (s || t))) + tally (marked (w && (s && t))) ≡ tally (marked (w && s)) + tally (marked (w && t))
pair_mark true true true = refl
pair_mark true true false = refl
pair_mark true false true = refl
pair_mark true false false = refl
pair_mark false s t = refl

module _ (lo hi : ℕ) (a b : List Span) (real : lo < hi) (ta : Tidy 0 a) (tb : Tidy 0 b) where
  -- the result, and what it holds at an instant
  abbrev here : Query → List Span
  here q = result lo hi a b q

  held : (q : Query) (k : ℕ) → at (here q) k ≡ marked (is_true lo hi a b q k)
  held q = (result_means lo hi a b real ta tb q).holds

  -- NO RANGE of the result leaves the window
  pub ends_within : (q : Query) → EndsBy hi (result lo hi a b q)
  unfolding is_true
  ends_within q =
      let o = (result_means lo hi a b real ta tb q).tidy.ordered in
      let in_window : (k v : ℕ) → at (here q) k ≡ some v → k < hi =
      λ k v e. (yes_in lo hi k (marked_some (inside lo hi k) (truth q (at a k) (at b k)) (sym (held q k) ∙ e))).to in
      record { ordered = o; upto = upto_at 0 hi (here q) o in_window }

  -- TRUE AND NOT TRUE fill the window
  pub hours_add_up : (q : Query) → span_total (result lo hi a b q) + span_total (result lo hi a b (no q)) ≡ hi - lo
  unfolding is_true truth span_total at
  hours_add_up q =
      let window : EndsBy hi (span lo hi 0 ∷ []) = record { ordered = (omega arith, real, tt); upto = (omega arith, tt) } in
      let nothing : EndsBy hi [] = record { ordered = tt; upto = tt } in
      let e = total_pairs (ends_within q) (ends_within (no q)) window nothing
      (λ k. rw (held q k, held (no q) k) (split_mark (inside lo hi k) (truth q (at a k) (at b k)))) in
      omega arith

  -- EITHER AND BOTH have together as many instants as the two
  pub hours_of_two : (p q : Query)
      → span_total (result lo hi a b (either p q)) + span_total (result lo hi a b (both p q)) ≡ span_total (result lo hi a b p) + span_total (result lo hi a b q)
  unfolding is_true truth
  hours_of_two p q =
      total_pairs (ends_within (either p q)) (ends_within (both p q)) (ends_within p) (ends_within q)
      (λ k. rw (held (either p q) k, held (both p q) k, held p k, held q k)
      (pair_mark (inside lo hi k) (truth p (at a k) (at b k)) (truth q (at a k) (at b k))))
