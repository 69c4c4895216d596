-- What a function answers that writes a list of ranges into two lent slices: the list is written, or there is no room for it.
use Prim.Native.Nat.{ℕ, ◌+◌, ◌≤◌, ◌<◌, min}
use native.Mathlib.Omega.{arith}
use native.Mathlib.Decide.{dec_lt}
use mathlib.Core.Path.{◌≡◌}
use mathlib.Core.List.{List}
use borrow.Author.Tests.{lt-ltb, le-ltb}
use lib.ListN.{length, set, length-map}
use lib.Seq.{sets, sets-eq}
use lib.IntN.{ℤ}
use mir.Syntax.{w64}
use mir.Val.{to_z}
use Rattle.answers.specs.Answers.{too_short}
use Rattle.span.specs.Span.{Span}
use Rattle.key.specs.Rank.{bit_rank, key_at}
use Rattle.key.specs.Range.{Kind}
use Rattle.key.proofs.Laws.{key_bits}
use Rattle.outcomes.specs.Outcomes.{in_first_places, into_lists}
use Rattle.range_list.specs.InnerLists.{wrote, starts_of, ends_of, ListRoom, Puts}
use Rattle.std.specs.Prelude.{Ok, Err}
use Rattle.answers.specs.declared.Refusal.TheVariants.{TooShort}

-- a lent list with stores in its first places
sets_over : (vs l : List ℤ) → length vs ≤ length l → sets l 0 vs ≡ in_first_places vs l
sets_over vs l h = let n : 0 + length vs ≡ length vs = omega arith in rw n at (sets-eq vs l 0 (omega arith))

not_le : {a b : ℕ} → (a ≤ b → ⊥) → b < a
not_le {a} {b} h = elim (dec_lt b a) [ yes p ↦ p | no p ↦ absurd (h (omega arith)) ]

-- THE ANSWERS: r is the room that there is, and xs the ranges
module _ (kind : Kind) (xs : List Span) (os oe : List ℤ) {r : ℕ} (room : r ≡ min (length os) (length oe)) where
  -- there is no room
  pub answers_short : (length xs ≤ r → ⊥) → wrote (Err TooShort) os oe ≡ into_lists kind xs os oe
  unfolding into_lists
  answers_short f = let h = rw room at (not_le f) in rw (lt-ltb (min (length os) (length oe)) (length xs) h)

  -- there is
  pub enough : length xs ≤ r → ListRoom 0 xs os oe
  enough h = record { starts = omega (arith, room); ends = omega (arith, room) }

  all_written : length xs ≤ r → wrote (Ok (length xs)) (sets os 0 (starts_of xs)) (sets oe 0 (ends_of kind xs)) ≡ into_lists kind xs os oe
  unfolding into_lists
  all_written h =
      let a = sets_over (starts_of xs) os (omega (arith, room, length-map xs (λ (x : Span). key_at x.lo))) in
      let b = sets_over (ends_of kind xs) oe (omega (arith, room, length-map xs (λ (x : Span). kind.ending x.hi))) in
      rw (a, b, le-ltb (min (length os) (length oe)) (length xs) (omega (arith, room)))

  -- and the ranges are written
  pub answers_done : {n : ℕ} {os₁ oe₁ : List ℤ} → length xs ≤ r → (n ≡ length xs) × Puts kind 0 xs os oe os₁ oe₁ → wrote (Ok n) os₁ oe₁ ≡ into_lists kind xs os oe
  answers_done h w = rw (w.0, w.1.starts, w.1.ends) (all_written h)

-- a start as the code writes it
pub put_start : (l : List ℤ) {l₁ : List ℤ} (n b : ℕ) → l₁ ≡ set l n (to_z w64 b) → l₁ ≡ set l n (key_at (bit_rank b))
put_start l n b e = rw (← key_bits b) e
