-- THE ALGEBRA of what is written: bytes that spell queries alike in truth have one outcome; hours and windows of the written ranges add up.
use Prim.Native.Nat.{ℕ, ◌+◌, ◌-◌}
use mathlib.Core.Path.{◌≡◌, refl, subst}
use mathlib.Core.Bool.{Bool, true, false, ◌&&◌, cond}
use mathlib.Core.List.{List}
use borrow.Author.Tests.{ltb-true}
use lib.Dec.{ltb}
use lib.IntN.{ℤ}
use Rattle.span.specs.Span.{Span, Tidy, at}
use Rattle.span.specs.Operations.{laid_over, span_total}
use Rattle.span.proofs.Tests as tests
use Rattle.key.specs.Rank.{rank}
use Rattle.key.specs.Range.{half_open}
use Rattle.outcomes.specs.Stored.{places, ranges}
use Rattle.outcomes.specs.declared.Stored.{Stored}
use Rattle.outcomes.specs.Outcomes.{not_written, Written, into_lists, formed}
use Rattle.outcomes.specs.Answered.{Asked}
use Rattle.outcomes.proofs.Formed as formed
use Rattle.query_text.specs.Grammar.{Query, no, both, either, Is}
use Rattle.query_text.proofs.Grammar.{is_read}
use Rattle.query_text.proofs.Unambiguous.{unambiguous}
use Rattle.query_text.proofs.Alike.{Alike}
use Rattle.query.specs.Result.{is_true}
use Rattle.query.proofs.Algebra.{same_truth}
use Rattle.query.proofs.Hours.{hours_add_up, hours_of_two}
use Rattle.query.proofs.Windows.{windows_join, windows_add_up}
use Rattle.query.specs.Answers.{result_of, query_ranges_sound, query_at_sound, query_ranges, query_at}
use Rattle.query.proofs.ByCases.{Asks, Answered, refusal, shown}
use Rattle.query.proofs.Agree.{written_ranges, refused_counted, comes_back}
use Rattle.std.specs.Prelude.{Ok}
use Rattle.answers.specs.declared.Refusal.TheVariants.{EmptyRange, NotFormed}

-- one test, and answers that are equal where it is true
cond_same : {A : Type 0} {x y : A} (t : Bool) (z : A) → (t ≡ true → x ≡ y) → cond t x z ≡ cond t y z
cond_same true z f = f refl
cond_same false z f = refl

module _ (a b : Stored) (s e : ℤ) {p q : Query} (same : Alike p q) {v w : List ℕ} (is-p : Is v p) (is-q : Is w q) where
  -- SAME TRUTH, same outcome, of well-formed maps: the answer and both lent lists, and the answer at each instant
  pub same_queried : Tidy 0 (ranges half_open a) → Tidy 0 (ranges half_open b) → (os oe : List ℤ) → query_ranges_sound a b s e v os oe ≡ query_ranges_sound a b s e w os oe
  unfolding query_ranges_sound
  same_queried ta tb os oe = cond_same (ltb (rank s) (rank e)) (not_written EmptyRange os oe) (λ l.
      let lt = ltb-true (rank s) (rank e) l in
      let r : result_of a b s e p ≡ result_of a b s e q = same_truth (rank s) (rank e) (ranges half_open a) (ranges half_open b) lt ta tb same in
      rw (is_read v p is-p, is_read w q is-q, r))

  pub same_queried_at : (k : ℤ) → query_at_sound a b s e v k ≡ query_at_sound a b s e w k
  unfolding query_at_sound is_true
  same_queried_at k = rw (is_read v p is-p, is_read w q is-q, same.same (at (ranges half_open a) (rank k)) (at (ranges half_open b) (rank k)))

  -- of any maps
  pub same_written : (os oe : List ℤ) → query_ranges a b s e v os oe ≡ query_ranges a b s e w os oe
  unfolding query_ranges
  same_written os oe = cond_same (formed half_open a && formed half_open b) (not_written NotFormed os oe) (λ t.
      let (x, y) = tests.both (formed half_open a) (formed half_open b) t in
      same_queried (formed.formed half_open places a x).tidy (formed.formed half_open places b y).tidy os oe)

  pub same_at : (k : ℤ) → query_at a b s e v k ≡ query_at a b s e w k
  unfolding query_at
  same_at k = rw (same_queried_at k)

-- m IS THE RESULT of the query q, which the bytes are, and nothing was refused
pub record TellsResult (a b : Stored) (s e : ℤ) (bytes : List ℕ) (q : Query) (m : List Span) : Type 0 where
  pub asks : Asks a b s e bytes q
  pub result_is : m ≡ result_of a b s e q

-- the written ranges are
pub tells_result : {a b : Stored} {s e : ℤ} {bytes : List ℕ} {os oe : List ℤ} {k : ℤ} {w : Written} {t : Asked} {q : Query} → Answered a b s e bytes os oe k w t
    → Is bytes q → (n : ℕ) → w.answer ≡ Ok n → TellsResult a b s e bytes q (written_ranges n w)
tells_result (refusal m r) is n c = refused_counted c
tells_result {a} {b} {s} {e} {bytes} {os} {oe} (shown p asks) is n c =
    subst (λ (x : Query). TellsResult a b s e bytes x (written_ranges n (into_lists half_open (result_of a b s e p) os oe))) (unambiguous asks.spelt is)
    (record { asks = asks; result_is = comes_back asks os oe n c })

-- HOURS: of a query and its opposite; of two queries, both and either
module _ {a b : Stored} {s e : ℤ} where
  pub hours_written : {q : Query} {v w : List ℕ} {x y : List Span} → TellsResult a b s e v q x → TellsResult a b s e w (no q) y
      → span_total x + span_total y ≡ rank e - rank s
  hours_written {q} f g =
      rw (f.result_is, g.result_is)
      (hours_add_up (rank s) (rank e) (ranges half_open a) (ranges half_open b) f.asks.real f.asks.first_tidy f.asks.second_tidy q)

  pub hours_of_two_written : {p q : Query} {t u v w : List ℕ} {x y z o : List Span} → TellsResult a b s e t (either p q) x → TellsResult a b s e u (both p q) y
      → TellsResult a b s e v p z → TellsResult a b s e w q o → span_total x + span_total y ≡ span_total z + span_total o
  hours_of_two_written {p} {q} f g h i =
      rw (f.result_is, g.result_is, h.result_is, i.result_is)
      (hours_of_two (rank s) (rank e) (ranges half_open a) (ranges half_open b) f.asks.real f.asks.first_tidy f.asks.second_tidy p q)

-- WINDOWS that meet: what is written over both is what is written over each, joined
module _ {a b : Stored} {s mid e : ℤ} {q : Query} {u v w : List ℕ} {x y z : List Span}
    (f : TellsResult a b s mid u q x) (g : TellsResult a b mid e v q y) (h : TellsResult a b s e w q z) where
  tidy_first : Tidy 0 (ranges half_open a)
  tidy_first = f.asks.first_tidy

  tidy_second : Tidy 0 (ranges half_open b)
  tidy_second = f.asks.second_tidy

  pub windows_written : laid_over x y ≡ z
  windows_written =
      rw (f.result_is, g.result_is, h.result_is)
      (windows_join (rank s) (rank mid) (rank e) (ranges half_open a) (ranges half_open b) f.asks.real g.asks.real tidy_first tidy_second q)

  pub windows_hours : span_total x + span_total y ≡ span_total z
  windows_hours =
      rw (f.result_is, g.result_is, h.result_is)
      (windows_add_up (rank s) (rank mid) (rank e) (ranges half_open a) (ranges half_open b) f.asks.real g.asks.real tidy_first tidy_second q)
