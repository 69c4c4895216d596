-- What is answered of a query, case by case: 4, 1, 7, and else the result. One law for the ranges and for one instant.
use Prim.Native.Nat.{ℕ, ◌<◌}
use mathlib.Core.Path.{◌≡◌, refl}
use mathlib.Core.Bool.{Bool, true, false, ◌&&◌, cond}
use mathlib.Core.List.{List}
use borrow.Author.Tests.{ltb-true}
use lib.Dec.{ltb}
use lib.IntN.{ℤ}
use Rattle.span.specs.Span.{Tidy}
use Rattle.span.proofs.Tests as tests
use Rattle.key.specs.Rank.{rank}
use Rattle.key.specs.Range.{half_open}
use Rattle.outcomes.specs.Stored.{places, ranges}
use Rattle.outcomes.specs.declared.Stored.{Stored}
use Rattle.outcomes.specs.Outcomes.{not_written, Written, into_lists, formed, yes_no}
use Rattle.outcomes.specs.Answered.{Asked}
use Rattle.outcomes.proofs.Formed as formed
use Rattle.query_text.specs.Grammar.{Query, Is}
use Rattle.query_text.specs.Reader.{Read, got, bad, query_of}
use Rattle.query_text.proofs.Grammar.{read_is}
use Rattle.query.specs.Result.{is_true}
use Rattle.query.specs.Answers.{by_query, result_of, query_ranges_sound, query_at_sound, query_ranges, query_at}
use Rattle.std.specs.Prelude.{Err}
use Rattle.answers.specs.declared.Refusal.{Refusal}
use Rattle.answers.specs.declared.Refusal.TheVariants.{EmptyRange, TooShort, NotFormed, BadQuery}

-- nothing is refused but for want of room: the maps are well formed, the window is not empty, and the bytes are the query q
pub record Asks (a b : Stored) (s e : ℤ) (bytes : List ℕ) (q : Query) : Type 0 where
  pub first_tidy : Tidy 0 (ranges half_open a)
  pub second_tidy : Tidy 0 (ranges half_open b)
  pub real : rank s < rank e
  pub spelt : Is bytes q

-- is the key k in the result
abbrev pub is_in : Stored → Stored → ℤ → ℤ → Query → ℤ → Bool
is_in a b s e q k = is_true (rank s) (rank e) (ranges half_open a) (ranges half_open b) q (rank k)

-- WHAT IS ANSWERED, of the ranges and of one instant: both are refused alike, but not for want of room, which refuses the list alone;
-- or the bytes are a query and both tell its result
pub data Answered (a b : Stored) (s e : ℤ) (bytes : List ℕ) (os oe : List ℤ) (k : ℤ) : Written → Asked → Type 0 where
  refusal : (why : Refusal) → (why ≡ TooShort → ⊥) → Answered a b s e bytes os oe k (not_written why os oe) (Err why)
  shown : (q : Query) → Asks a b s e bytes q → Answered a b s e bytes os oe k (into_lists half_open (result_of a b s e q) os oe) (yes_no (is_in a b s e q k))

-- two answers by one test
cond_two : {A B : Type 0} (t : Bool) (P : A → B → Type 0) {x y : A} {u v : B} → (t ≡ true → P x u) → P y v → P (cond t x y) (cond t u v)
cond_two true P f g = f refl
cond_two false P f g = g

module _ (a b : Stored) (s e : ℤ) (bytes : List ℕ) (os oe : List ℤ) (k : ℤ) where
  -- of what is read
  by_reading : (x : Read) → query_of bytes ≡ x → ((q : Query) → Is bytes q → Asks a b s e bytes q)
      → Answered a b s e bytes os oe k
      (by_query x (λ q. into_lists half_open (result_of a b s e q) os oe) (not_written BadQuery os oe))
      (by_query x (λ q. yes_no (is_in a b s e q k)) (Err BadQuery))
  by_reading bad e f = refusal BadQuery (λ t. cc)
  by_reading (got q rest) e f = shown q (f q (read_is bytes q rest e))

  -- OF WELL-FORMED MAPS
  pub queried_answers : Tidy 0 (ranges half_open a) → Tidy 0 (ranges half_open b)
      → Answered a b s e bytes os oe k (query_ranges_sound a b s e bytes os oe) (query_at_sound a b s e bytes k)
  unfolding query_ranges_sound query_at_sound
  queried_answers ta tb = cond_two (ltb (rank s) (rank e)) (Answered a b s e bytes os oe k)
      (λ t. by_reading (query_of bytes) refl (λ q i. record { first_tidy = ta; second_tidy = tb; real = ltb-true (rank s) (rank e) t; spelt = i }))
      (refusal EmptyRange (λ t. cc))

  -- OF ANY MAPS
  pub querying_answers : Answered a b s e bytes os oe k (query_ranges a b s e bytes os oe) (query_at a b s e bytes k)
  unfolding query_ranges query_at
  querying_answers = cond_two (formed half_open a && formed half_open b) (Answered a b s e bytes os oe k)
      (λ t. let (x, y) = tests.both (formed half_open a) (formed half_open b) t in
      queried_answers (formed.formed half_open places a x).tidy (formed.formed half_open places b y).tidy)
      (refusal NotFormed (λ t. cc))
