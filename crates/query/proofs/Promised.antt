-- What C and Rust see of the two entries: what the lent lists hold, and the instant told by the ranges there.
-- r, starts and ends are what the entry for ranges answers and leaves; t is what the entry for one instant answers.
use Prim.Native.Nat.{ℕ, min}
use mathlib.Core.Path.{◌≡◌, refl, sym, ap, ◌∙◌}
use mathlib.Core.Bool.{Bool, true, false}
use mathlib.Core.List.{List, []}
use lib.ListN.{length}
use lib.IntN.{ℤ}
use Rattle.span.specs.Span.{Span}
use Rattle.span.proofs.Tests.{lt_cases}
use Rattle.key.specs.Rank.{rank}
use Rattle.key.specs.Range.{half_open}
use Rattle.key.proofs.Answers.{one_answer}
use Rattle.outcomes.specs.declared.Stored.{Stored}
use Rattle.outcomes.specs.Numbers.{asked_in_c, counted_in_c}
use Rattle.outcomes.specs.Outcomes.{Written, Listed, into_lists, yes_no}
use Rattle.outcomes.specs.Answered.{Asked}
use Rattle.outcomes.specs.Answered.{Counted}
use Rattle.outcomes.specs.declared.Count.{Count}
use Rattle.outcomes.specs.declared.Told.{Told}
use Rattle.outcomes.proofs.Sets.{covers}
use Rattle.outcomes.proofs.Unique.{list_one}
use Rattle.range_list.specs.InnerColumns.{column_rows}
use Rattle.query_text.specs.Grammar.{Query, Is}
use Rattle.query_text.proofs.Alike.{Alike}
use Rattle.query.specs.Answers.{result_of, query_ranges, query_at}
use Rattle.query.proofs.ByCases.{Answered, refusal, shown, querying_answers, is_in}
use Rattle.query.proofs.Agree.{written_ranges, IsResult, answered_means, answered_agree}
use Rattle.query.proofs.WrittenLaws.{TellsResult, tells_result, same_written, same_at}
use Rattle.std.specs.Prelude.{Ok, Err}
use Rattle.answers.specs.Refusals.{number}
use Rattle.answers.specs.declared.Refusal.{Refusal}
use Rattle.answers.specs.declared.Refusal.TheVariants.{TooShort}
use Rattle.outcomes.specs.Answered.{Outcome}
use Rattle.outcomes.proofs.Went.{number_one, number_nonzero}

-- yes or no is told with the number 0
told_yes : (t : Bool) → asked_in_c (yes_no t) ≡ record { answer = 0; yes = t }
told_yes true = refl
told_yes false = refl

-- the number 0 is a count's
counted : (c : Counted) {r : Count} → r ≡ counted_in_c c → r.answer ≡ 0 → c ≡ Ok r.count
counted (Ok n) e z = ap (λ (r : Count). Ok r.count) (sym e)
counted (Err why) e z = absurd (number_nonzero why (sym (ap (λ (r : Count). r.answer) e) ∙ z))

-- the number 3 is that of lent lists that are too short
is_short : (why : Refusal) → number why ≡ 3 → why ≡ TooShort
is_short why e = let same : ◌≡◌ {A = Outcome} (Err why) (Err TooShort) = number_one (Err why) (Err TooShort) e in cc

-- the number of a list that is written or too long
writing_number : (xs : List Span) (os oe : List ℤ)
    → ((counted_in_c (into_lists half_open xs os oe).answer).answer ≡ 3 → ⊥) → (counted_in_c (into_lists half_open xs os oe).answer).answer ≡ 0
unfolding into_lists
writing_number xs os oe =
    lt_cases (min (length os) (length oe)) (length xs) (λ (w : Written). ((counted_in_c w.answer).answer ≡ 3 → ⊥) → (counted_in_c w.answer).answer ≡ 0)
    (λ h f. absurd (f refl)) (λ h f. refl)

-- yes is told of the key k exactly where it is in the window and the query that the bytes are is true of what the two maps hold there
pub record ToldOf (a b : Stored) (s e : ℤ) (bytes : List ℕ) (k : ℤ) (yes : Bool) : Type 0 where
  pub query : Query
  pub spelt : Is bytes query
  pub tells : yes ≡ is_in a b s e query k

module _ {a b : Stored} {s e : ℤ} {bytes : List ℕ} {os oe : List ℤ} {k : ℤ} where
  -- the numbers of the two entries are one, but where the lent lists are too short
  answered_number : {w : Written} {x : Asked} → Answered a b s e bytes os oe k w x
      → ((counted_in_c w.answer).answer ≡ 3 → ⊥) → (asked_in_c x).answer ≡ (counted_in_c w.answer).answer
  answered_number (refusal n f) h = refl
  answered_number (shown q asks) h = ap (λ (t : Told). t.answer) (told_yes (is_in a b s e q k)) ∙ sym (writing_number (result_of a b s e q) os oe h)

  -- and there the instant is told all the same
  answered_short : {w : Written} {x : Asked} → Answered a b s e bytes os oe k w x → (counted_in_c w.answer).answer ≡ 3 → (asked_in_c x).answer ≡ 0
  answered_short (refusal why f) h = absurd (f (is_short why h))
  answered_short (shown q asks) h = ap (λ (t : Told). t.answer) (told_yes (is_in a b s e q k))

  -- the number 0 says that the bytes are a query, of which the instant is told
  answered_told : {w : Written} {x : Asked} {t : Told} → Answered a b s e bytes os oe k w x → t ≡ asked_in_c x → t.answer ≡ 0 → ToldOf a b s e bytes k t.yes
  answered_told (refusal why f) h z = absurd (number_nonzero why (sym (ap (λ (t : Told). t.answer) h) ∙ z))
  answered_told (shown q asks) h z =
      record { query = q; spelt = asks.spelt; tells = ap (λ (t : Told). t.yes) (h ∙ told_yes (is_in a b s e q k)) }

module _ (a b : Stored) (s e : ℤ) (bytes : List ℕ) (k : ℤ) where
  -- WHERE THE NUMBER IS 0, it is told by whether the query is true of it
  pub told_means : {t : Told} → t ≡ asked_in_c (query_at a b s e bytes k) → t.answer ≡ 0 → ToldOf a b s e bytes k t.yes
  told_means told z = answered_told (querying_answers a b s e bytes [] [] k) told z

module _ (a b : Stored) (s e : ℤ) (bytes : List ℕ) (os oe : List ℤ) where
  module _ {r : Count} {starts ends : List ℤ} (listed : Listed r starts ends (query_ranges a b s e bytes os oe)) where
    -- WHERE THE NUMBER IS 0, the first places of the lent lists, as many as the count, are the true instants of the window in maximal ranges
    pub listed_means : r.answer ≡ 0 → IsResult a b s e bytes (column_rows half_open starts ends r.count)
    listed_means z =
        let x = querying_answers a b s e bytes os oe s in
        rw (listed.starts_are, listed.ends_are) (answered_means x r.count (counted _ listed.number z))

    -- and so the result of the query that the bytes are: its hours and windows are those of WrittenLaws
    pub listed_tells : {q : Query} → Is bytes q → r.answer ≡ 0 → TellsResult a b s e bytes q (column_rows half_open starts ends r.count)
    listed_tells is z =
        let x = querying_answers a b s e bytes os oe s in
        rw (listed.starts_are, listed.ends_are) (tells_result x is r.count (counted _ listed.number z))

    module _ {t : Told} (k : ℤ) (told : t ≡ asked_in_c (query_at a b s e bytes k)) where
      -- THE TWO ENTRIES AGREE: the instant is told yes exactly where one of those ranges covers it
      pub listed_agree : r.answer ≡ 0 → t ≡ record { answer = 0; yes = covers (column_rows half_open starts ends r.count) (rank k) }
      listed_agree z =
          let x = querying_answers a b s e bytes os oe k in
          let y = answered_agree x r.count (counted _ listed.number z) in
          rw (listed.starts_are, listed.ends_are)
          (told ∙ ap asked_in_c y ∙ told_yes (covers (written_ranges r.count (query_ranges a b s e bytes os oe)) (rank k)))

      -- and their numbers are one, but where the lent lists are too short
      pub listed_number : (r.answer ≡ 3 → ⊥) → t.answer ≡ r.answer
      listed_number f =
          let n : r.answer ≡ (counted_in_c (query_ranges a b s e bytes os oe).answer).answer = ap (λ (r : Count). r.answer) listed.number in
          ap (λ (t : Told). t.answer) told ∙ answered_number (querying_answers a b s e bytes os oe k) (λ h. f (n ∙ h)) ∙ sym n

      -- where the instant is told all the same
      pub listed_short : r.answer ≡ 3 → t.answer ≡ 0
      listed_short z =
          let n : r.answer ≡ (counted_in_c (query_ranges a b s e bytes os oe).answer).answer = ap (λ (r : Count). r.answer) listed.number in
          ap (λ (t : Told). t.answer) told ∙ answered_short (querying_answers a b s e bytes os oe k) (sym n ∙ z)

-- SAME TRUTH: bytes that spell queries alike have one outcome, and one answer at each instant
module _ (a b : Stored) (s e : ℤ) {p q : Query} (same : Alike p q) {v w : List ℕ} (is-p : Is v p) (is-q : Is w q) where
  pub same_listed : (os oe : List ℤ) {ss es ss' es' : List ℤ} {r t : Count} → Listed r ss es (query_ranges a b s e v os oe)
      → Listed t ss' es' (query_ranges a b s e w os oe) → (r ≡ t) × (ss ≡ ss') × (es ≡ es')
  same_listed os oe x y = list_one (rw (same_written a b s e same is-p is-q os oe) at x) y

  pub same_told : {r t : Told} (k : ℤ) → r ≡ asked_in_c (query_at a b s e v k) → t ≡ asked_in_c (query_at a b s e w k) → r ≡ t
  same_told k x y = one_answer x (y ∙ ap asked_in_c (sym (same_at a b s e same is-p is-q k)))
