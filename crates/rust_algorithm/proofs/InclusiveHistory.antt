-- Any sequence of the inclusive map's inserts and removes; and i64's steps, in a build that checks and in one that does not.
use Prim.Native.Nat.{ℕ, suc, ◌-◌, ◌^◌, ◌≤◌, ◌<◌}
use native.Mathlib.Omega.{arith}
use mathlib.Core.Path.{◌≡◌, refl, ◌∙◌}
use mathlib.Core.List.{List, [], ◌∷◌}
use mathlib.Core.Option.{Option, some, none}
use borrow.Author.Tests.{lt-ltb}
use Rattle.span.specs.Span.{Span, Upto, Tidy, Edit, given, history, Real}
use Rattle.span.specs.Operations.{puts}
use Rattle.span.proofs.Laws.{tidy_given}
use Rattle.outcomes.proofs.Edits.{upto_given}
use Rattle.rust_algorithm.specs.InclusiveMap.{StepFns, inclusive_insert, inclusive_edit, inclusive_history, inclusive_extend}
use Rattle.rust_algorithm.specs.InclusiveMap.{add_one_checked, sub_one_checked, add_one_wrapping, sub_one_wrapping}
use Rattle.rust_algorithm.proofs.Entries.{after_both}
use Rattle.rust_algorithm.proofs.InclusiveEdits.{inclusive_insert_is, inclusive_remove_is}

-- no edit ends past c
abbrev pub By : ℕ → List Edit → Type 0
By c [] = Unit {0}
By c (e ∷ es) = (e.hi ≤ c) × By c es

module _ (add-one sub-one : ℕ → Option ℕ) (greatest : ℕ) (steps : StepFns add-one sub-one greatest) where
  pub inclusive_edit_is : (lo hi : ℕ) (new : Option ℕ) (m : List Span) → lo < hi → hi ≤ suc greatest → Tidy 0 m → Upto (suc greatest) m
      → inclusive_edit add-one sub-one lo hi new m ≡ some (given lo hi new m)
  unfolding inclusive_edit
  inclusive_edit_is lo hi none m h i t u =
      let whole : suc (hi - 1) ≡ hi = omega arith in
      inclusive_remove_is add-one sub-one greatest steps lo (hi - 1) m (omega arith) t u ∙ rw whole
  inclusive_edit_is lo hi (some v) m h i t u =
      let whole : suc (hi - 1) ≡ hi = omega arith in
      inclusive_insert_is add-one sub-one greatest steps lo (hi - 1) v m (omega arith) (omega arith) t u ∙ rw whole

  -- HISTORY: the calls in order leave what `history` says
  pub inclusive_history_is : (es : List Edit) (m : List Span) → Real es → By (suc greatest) es → Tidy 0 m → Upto (suc greatest) m
      → inclusive_history add-one sub-one es m ≡ some (history es m)
  unfolding inclusive_history history
  inclusive_history_is [] m r b t u = refl
  inclusive_history_is (e ∷ es) m r b t u =
      let t' = tidy_given e.lo e.hi e.new m r.0 t.ordered in
      let u' = upto_given (suc greatest) e.lo e.hi e.new m r.0 b.0 t.ordered u in
      rw (inclusive_edit_is e.lo e.hi e.new m r.0 b.0 t u) (inclusive_history_is es _ r.1 b.1 t' u')

  -- EXTEND is a sequence of inserts
  pub inclusive_extend_history : (xs m : List Span) → inclusive_extend add-one sub-one xs m ≡ inclusive_history add-one sub-one (puts xs) m
  unfolding inclusive_extend inclusive_history inclusive_edit puts
  inclusive_extend_history [] m = refl
  inclusive_extend_history (x ∷ xs) m =
      after_both (inclusive_insert add-one sub-one x.lo (x.hi - 1) x.label m) (inclusive_extend add-one sub-one xs)
      (inclusive_history add-one sub-one (puts xs)) (inclusive_extend_history xs)

-- I64: the greatest key has the rank 2 ^ 64 - 1. In a build that checks, add_one panics there: so where a theorem says that nothing panics, it was not called
-- there
pub checked : StepFns add_one_checked sub_one_checked (2 ^ 64 - 1)
unfolding add_one_checked sub_one_checked
checked = record { adds = λ z h. rw (lt-ltb z (2 ^ 64 - 1) h); subs = λ z h. rw (lt-ltb 0 z h) }

pub wrapping : StepFns add_one_wrapping sub_one_wrapping (2 ^ 64 - 1)
unfolding add_one_wrapping sub_one_wrapping
wrapping = record { adds = λ z h. rw (lt-ltb z (2 ^ 64 - 1) h); subs = λ z h. rw (lt-ltb 0 z h) }
