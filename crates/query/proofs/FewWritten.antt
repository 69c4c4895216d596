-- HOW MANY RANGES are written at most: one more than the two maps hold together, so 1,025 at 512 a map; with so many places the lent lists are never too short.
use Prim.Native.Nat.{ℕ, ◌+◌, ◌*◌, ◌≤◌, min}
use native.Mathlib.Omega.{arith}
use mathlib.Core.Path.{◌≡◌, refl}
use mathlib.Core.Bool.{◌&&◌}
use mathlib.Core.List.{List}
use lib.ListN.{length, length-take}
use lib.IntN.{ℤ}
use Rattle.span.specs.Span.{Span}
use Rattle.span.proofs.Tests.{both, cases, lt_cases}
use Rattle.key.specs.Rank.{rank}
use Rattle.key.specs.Range.{half_open}
use Rattle.outcomes.specs.Stored.{places, spans, ranges}
use Rattle.outcomes.specs.declared.Stored.{Stored}
use Rattle.outcomes.specs.Outcomes.{Written, into_lists, formed}
use Rattle.outcomes.specs.Answered.{Asked}
use Rattle.outcomes.proofs.Formed as formed
use Rattle.query_text.specs.Grammar.{Query}
use Rattle.query.proofs.Few.{query_few}
use Rattle.query.specs.Answers.{result_of, query_ranges}
use Rattle.query.proofs.ByCases.{Asks, Answered, refusal, shown, querying_answers}
use Rattle.query.proofs.Agree.{refused_counted}
use Rattle.std.specs.Prelude.{Ok, Err}
use Rattle.answers.specs.declared.Refusal.TheVariants.{TooShort, NotFormed}

-- a map has no more ranges than its count says
ranges_few : (m : Stored) → length (ranges half_open m) ≤ m.count
unfolding ranges
ranges_few m = omega (arith, length-take m.count (spans half_open m.starts m.ends m.values))

pub result_few : {a b : Stored} {s e : ℤ} {bytes : List ℕ} {q : Query} → Asks a b s e bytes q → length (result_of a b s e q) ≤ a.count + b.count + 1
result_few {a} {b} {s} {e} {bytes} {q} asks =
    let few = query_few (rank s) (rank e) (ranges half_open a) (ranges half_open b) asks.real asks.first_tidy asks.second_tidy q in
    omega (arith, ranges_few a, ranges_few b)

-- a list is written whole, and it is where there is room
module _ (xs : List Span) (os oe : List ℤ) where
  writing_counted : (n : ℕ) → (into_lists half_open xs os oe).answer ≡ Ok n → n ≡ length xs
  unfolding into_lists
  writing_counted n = lt_cases (min (length os) (length oe)) (length xs) (λ (w : Written). w.answer ≡ Ok n → n ≡ length xs)
      (λ h c. refused_counted c) (λ h c. cc)

  writing_room : length xs ≤ length os → length xs ≤ length oe → (into_lists half_open xs os oe).answer ≡ Err TooShort → ⊥
  unfolding into_lists
  writing_room p q = lt_cases (min (length os) (length oe)) (length xs) (λ (w : Written). w.answer ≡ Err TooShort → ⊥)
      (λ h c. omega arith) (λ h c. cc)

-- of either door
module _ {a b : Stored} {s e : ℤ} {bytes : List ℕ} {os oe : List ℤ} {k : ℤ} where
  pub answered_few : {w : Written} {t : Asked} → Answered a b s e bytes os oe k w t → (n : ℕ) → w.answer ≡ Ok n → n ≤ a.count + b.count + 1
  answered_few (refusal m r) n c = refused_counted c
  answered_few (shown q asks) n c = omega (arith, result_few asks, writing_counted (result_of a b s e q) os oe n c)

  pub answered_room : {w : Written} {t : Asked} → Answered a b s e bytes os oe k w t → a.count + b.count + 1 ≤ length os → a.count + b.count + 1 ≤ length oe
      → w.answer ≡ Err TooShort → ⊥
  answered_room (refusal m r) p q c = r cc
  answered_room (shown x asks) p q c = writing_room (result_of a b s e x) os oe (omega (arith, result_few asks)) (omega (arith, result_few asks)) c

-- of any maps
module _ (a b : Stored) (s e : ℤ) (bytes : List ℕ) (os oe : List ℤ) where
  -- maps that are not refused hold no more than a map may
  not_refused : ((query_ranges a b s e bytes os oe).answer ≡ Err NotFormed → ⊥) → (a.count ≤ places) × (b.count ≤ places)
  unfolding query_ranges
  not_refused = cases (formed half_open a && formed half_open b)
      (λ (w : Written). (w.answer ≡ Err NotFormed → ⊥) → (a.count ≤ places) × (b.count ≤ places))
      (λ t f. let (x, y) = both (formed half_open a) (formed half_open b) t in ((formed.formed half_open places a x).held, (formed.formed half_open places b y).held))
      (λ t f. absurd (f refl))

  pub written_few : (n : ℕ) → (query_ranges a b s e bytes os oe).answer ≡ Ok n → n ≤ 2 * places + 1
  written_few n c =
      let (x, y) = not_refused (λ r. cc) in
      omega (arith, answered_few (querying_answers a b s e bytes os oe s) n c)

  pub room_enough : 2 * places + 1 ≤ length os → 2 * places + 1 ≤ length oe → (query_ranges a b s e bytes os oe).answer ≡ Err TooShort → ⊥
  room_enough p q c =
      let (x, y) = not_refused (λ r. cc) in
      answered_room (querying_answers a b s e bytes os oe s) (omega arith) (omega arith) c
