-- ONE INSTANT: it is in a range of the result exactly where it is in the window and the query is true there.
use Prim.Native.Nat.{ℕ, ◌<◌}
use native.Mathlib.Omega.{arith}
use mathlib.Core.Path.{◌≡◌, refl, sym, ◌∙◌}
use mathlib.Core.Bool.{Bool, true, false}
use mathlib.Core.List.{List}
use mathlib.Core.Option.{some}
use Rattle.span.specs.Span.{Span, Tidy, Means}
use Rattle.span.specs.Operations.{Plain, any, holds}
use Rattle.span.proofs.Sets.{plain_at}
use Rattle.span.proofs.Union.{at_plain}
use Rattle.span.proofs.Walks.{Spaced, tidy_spaced}
use Rattle.query_text.specs.Grammar.{Query}
use Rattle.query.specs.Result.{result, is_true, marked}
use Rattle.query.proofs.Result.{result_means}

marked_zero : (t : Bool) (v : ℕ) → marked t ≡ some v → v ≡ 0
marked_zero true v e = cc
marked_zero false v e = absurd (let z : ◌≡◌ {A = ℕ} 0 1 = cc in omega arith)

-- a mark tells the test
marked_same : (s t : Bool) → marked s ≡ marked t → s ≡ t
marked_same true true e = refl
marked_same true false e = absurd (let z : ◌≡◌ {A = ℕ} 0 1 = cc in omega arith)
marked_same false true e = absurd (let z : ◌≡◌ {A = ℕ} 0 1 = cc in omega arith)
marked_same false false e = refl

-- A LIST OF MARKS is a set, and its ranges are maximal: an instant is free between each and the next
module _ (g : ℕ → Bool) {m : List Span} (means : Means m (λ k. marked (g k))) where
  pub marks_plain : Plain m
  marks_plain = plain_at 0 m means.tidy.ordered (λ k v e. marked_zero (g k) v (sym (means.holds k) ∙ e))

  pub marks_maximal : Spaced 0 m
  marks_maximal = tidy_spaced 0 m means.tidy.ordered means.tidy.separate marks_plain

  -- it covers what is marked
  pub marks_cover : (k : ℕ) → any (holds k) m ≡ g k
  marks_cover k = marked_same (any (holds k) m) (g k) (sym (at_plain m k marks_plain) ∙ means.holds k)

module _ (lo hi : ℕ) (a b : List Span) (real : lo < hi) (ta : Tidy 0 a) (tb : Tidy 0 b) (q : Query) where
  pub result_plain : Plain (result lo hi a b q)
  result_plain = marks_plain (is_true lo hi a b q) (result_means lo hi a b real ta tb q)

  pub result_maximal : Spaced 0 (result lo hi a b q)
  result_maximal = marks_maximal (is_true lo hi a b q) (result_means lo hi a b real ta tb q)

  -- IN THE RESULT is what is in the window and of which the query is true
  pub result_covers : (k : ℕ) → any (holds k) (result lo hi a b q) ≡ is_true lo hi a b q k
  result_covers = marks_cover (is_true lo hi a b q) (result_means lo hi a b real ta tb q)
