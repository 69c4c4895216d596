-- THE TWO ENTRIES AGREE: the answer for one instant is whether the written ranges, read back from the lent lists, cover it.
-- And what is written is the result: the true instants of the window in maximal ranges, the only list of that kind.
use Prim.Native.Nat.{ℕ, min}
use mathlib.Core.Path.{◌≡◌, ap, subst}
use mathlib.Core.List.{List}
use lib.ListN.{length}
use lib.IntN.{ℤ}
use Rattle.span.specs.Span.{Span, Tidy, Means, Upto}
use Rattle.span.proofs.Tests.{lt_cases}
use Rattle.span.proofs.Laws.{only}
use Rattle.span.proofs.Total.{upto_more}
use Rattle.span.proofs.Walks.{Spaced}
use Rattle.key.specs.Rank.{rank}
use Rattle.key.specs.Range.{half_open}
use Rattle.key.proofs.Lawful.{half_open_lawful}
use Rattle.outcomes.specs.Stored.{ranges}
use Rattle.outcomes.specs.declared.Stored.{Stored}
use Rattle.outcomes.specs.Outcomes.{not_written, Written, into_lists, yes_no}
use Rattle.outcomes.specs.Answered.{Asked}
use Rattle.outcomes.specs.Answered.{Counted}
use Rattle.outcomes.proofs.Sets.{covers}
use Rattle.range_list.specs.InnerColumns.{column_rows}
use Rattle.query_text.specs.Grammar.{Query, Is}
use Rattle.query_text.proofs.Unambiguous.{unambiguous}
use Rattle.query.specs.Result.{is_true, marked}
use Rattle.query.proofs.Result.{result_means}
use Rattle.query.proofs.Hours.{ends_within}
use Rattle.query.proofs.Instants.{result_plain, result_covers, marks_maximal, marks_cover}
use Rattle.query.specs.Answers.{result_of, query_ranges_sound, query_at_sound, query_ranges, query_at}
use Rattle.query.proofs.ReadBack.{read_back}
use Rattle.query.proofs.ByCases.{Asks, is_in, Answered, refusal, shown, queried_answers, querying_answers}
use Rattle.std.specs.Prelude.{Ok, Err}
use Rattle.answers.specs.declared.Refusal.{Refusal}
use Rattle.answers.specs.declared.Refusal.TheVariants.{TooShort}

-- the ranges in the first n places of the two lists
abbrev pub written_ranges : ℕ → Written → List Span
written_ranges n w = column_rows half_open w.starts w.ends n

-- a refusal is no count
pub refused_counted : {A : Type 0} {why : Refusal} {n : ℕ} → ◌≡◌ {A = Counted} (Err why) (Ok n) → A
refused_counted e = absurd cc

-- a list that is not written is too long
pub writing_refused : (xs : List Span) (os oe : List ℤ) (why : Refusal) → (into_lists half_open xs os oe).answer ≡ Err why → why ≡ TooShort
unfolding into_lists
writing_refused xs os oe why = lt_cases (min (length os) (length oe)) (length xs) (λ (w : Written). w.answer ≡ Err why → why ≡ TooShort)
    (λ h e. cc) (λ h e. cc)

module _ {a b : Stored} {s e : ℤ} {bytes : List ℕ} {q : Query} (asks : Asks a b s e bytes q) where
  -- the result is a list that can be written and read back
  asks_means : Means (result_of a b s e q) (λ k. marked (is_true (rank s) (rank e) (ranges half_open a) (ranges half_open b) q k))
  asks_means = result_means (rank s) (rank e) (ranges half_open a) (ranges half_open b) asks.real asks.first_tidy asks.second_tidy q

  reaches : Upto half_open_lawful.limit (result_of a b s e q)
  reaches =
      let u = (ends_within (rank s) (rank e) (ranges half_open a) (ranges half_open b) asks.real asks.first_tidy asks.second_tidy q).upto in
      upto_more {b = rank e} (result_of a b s e q) (half_open_lawful.ends_within e) u

  pub comes_back : (os oe : List ℤ) (n : ℕ) → (into_lists half_open (result_of a b s e q) os oe).answer ≡ Ok n
      → written_ranges n (into_lists half_open (result_of a b s e q) os oe) ≡ result_of a b s e q
  comes_back os oe n c =
      let p = result_plain (rank s) (rank e) (ranges half_open a) (ranges half_open b) asks.real asks.first_tidy asks.second_tidy q in
      read_back half_open half_open_lawful (result_of a b s e q) os oe asks_means.tidy.ordered p reaches n c

  -- a key is in a range of it exactly where the query is true of it, in the window
  pub covers_where : (k : ℤ) → covers (result_of a b s e q) (rank k) ≡ is_in a b s e q k
  covers_where k = result_covers (rank s) (rank e) (ranges half_open a) (ranges half_open b) asks.real asks.first_tidy asks.second_tidy q (rank k)

-- m is the true instants of the window, of the query that the bytes are
pub record IsResult (a b : Stored) (s e : ℤ) (bytes : List ℕ) (m : List Span) : Type 0 where
  pub query : Query
  pub spelt : Is bytes query
  pub means : Means m (λ k. marked (is_true (rank s) (rank e) (ranges half_open a) (ranges half_open b) query k))

module _ {a b : Stored} {s e : ℤ} {bytes : List ℕ} {m : List Span} (r : IsResult a b s e bytes m) where
  -- MAXIMAL: an instant is free between each range and the next
  pub is_maximal : Spaced 0 m
  is_maximal = marks_maximal (is_true (rank s) (rank e) (ranges half_open a) (ranges half_open b) r.query) r.means

  -- EACH KEY is in a range of it exactly where it is in the window and the query is true of what the two maps hold there
  pub is_covering : (k : ℤ) → covers m (rank k) ≡ is_in a b s e r.query k
  is_covering k = marks_cover (is_true (rank s) (rank e) (ranges half_open a) (ranges half_open b) r.query) r.means (rank k)

-- THE ONLY ONE: two such lists are one
pub one_result : {a b : Stored} {s e : ℤ} {bytes : List ℕ} {m n : List Span} → IsResult a b s e bytes m → IsResult a b s e bytes n → m ≡ n
one_result {m = m} x y = only (subst (λ (q : Query). Means m (λ k. marked (is_true _ _ _ _ q k))) (unambiguous x.spelt y.spelt) x.means) y.means

-- OF EITHER DOOR: w is what is answered and written, and t what is told of the key k
module _ {a b : Stored} {s e : ℤ} {bytes : List ℕ} {os oe : List ℤ} {k : ℤ} where
  -- THE WRITTEN RANGES are the true instants of the window, in maximal ranges
  pub answered_means : {w : Written} {t : Asked} → Answered a b s e bytes os oe k w t → (n : ℕ) → w.answer ≡ Ok n
      → IsResult a b s e bytes (written_ranges n w)
  answered_means (refusal m r) n c = refused_counted c
  answered_means (shown q asks) n c = record { query = q; spelt = asks.spelt; means = rw (comes_back asks os oe n c) (asks_means asks) }

  -- THE TWO ENTRIES AGREE: where the list is written, the instant is told by whether it is covered
  pub answered_agree : {w : Written} {t : Asked} → Answered a b s e bytes os oe k w t → (n : ℕ) → w.answer ≡ Ok n
      → t ≡ yes_no (covers (written_ranges n w) (rank k))
  answered_agree (refusal m r) n c = refused_counted c
  answered_agree (shown q asks) n c = rw (comes_back asks os oe n c, covers_where asks k)

  -- what refuses the instant refuses the list
  pub answered_at : {w : Written} {t : Asked} → Answered a b s e bytes os oe k w t → (why : Refusal) → t ≡ Err why → w ≡ not_written why os oe
  answered_at (refusal m r) why c = let same : m ≡ why = cc in ap (λ (i : Refusal). not_written i os oe) same
  answered_at (shown q asks) why c = cc

  -- what refuses the list refuses the instant, but for want of room
  pub answered_list : {w : Written} {t : Asked} → Answered a b s e bytes os oe k w t → (why : Refusal) → (why ≡ TooShort → ⊥)
      → w.answer ≡ Err why → t ≡ Err why
  answered_list (refusal m r) why other c = cc
  answered_list (shown q asks) why other c = absurd (other (writing_refused (result_of a b s e q) os oe why c))

-- OF ANY MAPS
module _ (a b : Stored) (s e : ℤ) (bytes : List ℕ) (os oe : List ℤ) where
  pub written_means : (n : ℕ) → (query_ranges a b s e bytes os oe).answer ≡ Ok n → IsResult a b s e bytes (written_ranges n (query_ranges a b s e bytes os oe))
  written_means = answered_means (querying_answers a b s e bytes os oe s)

  pub written_only : (n : ℕ) (m : List Span) → (query_ranges a b s e bytes os oe).answer ≡ Ok n → IsResult a b s e bytes m
      → m ≡ written_ranges n (query_ranges a b s e bytes os oe)
  written_only n m c r = one_result r (written_means n c)

  pub entries_agree : (k : ℤ) (n : ℕ) → (query_ranges a b s e bytes os oe).answer ≡ Ok n
      → query_at a b s e bytes k ≡ yes_no (covers (written_ranges n (query_ranges a b s e bytes os oe)) (rank k))
  entries_agree k = answered_agree (querying_answers a b s e bytes os oe k)

  pub refused_at : (k : ℤ) (why : Refusal) → query_at a b s e bytes k ≡ Err why → query_ranges a b s e bytes os oe ≡ not_written why os oe
  refused_at k = answered_at (querying_answers a b s e bytes os oe k)

  pub refused_list : (k : ℤ) (why : Refusal) → (why ≡ TooShort → ⊥) → (query_ranges a b s e bytes os oe).answer ≡ Err why
      → query_at a b s e bytes k ≡ Err why
  refused_list k = answered_list (querying_answers a b s e bytes os oe k)

-- OF WELL-FORMED MAPS: what the unchecked doors promise
module _ (a b : Stored) (ta : Tidy 0 (ranges half_open a)) (tb : Tidy 0 (ranges half_open b)) (s e : ℤ) (bytes : List ℕ) (os oe : List ℤ) where
  pub queried_means : (n : ℕ) → (query_ranges_sound a b s e bytes os oe).answer ≡ Ok n → IsResult a b s e bytes (written_ranges n (query_ranges_sound a b s e bytes os oe))
  queried_means = answered_means (queried_answers a b s e bytes os oe s ta tb)

  pub queried_agree : (k : ℤ) (n : ℕ) → (query_ranges_sound a b s e bytes os oe).answer ≡ Ok n
      → query_at_sound a b s e bytes k ≡ yes_no (covers (written_ranges n (query_ranges_sound a b s e bytes os oe)) (rank k))
  queried_agree k = answered_agree (queried_answers a b s e bytes os oe k ta tb)
