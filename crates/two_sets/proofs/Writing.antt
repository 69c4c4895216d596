-- The two lent lists, while ranges are written into them one by one: what is still to be written.
use Prim.Native.Nat.{ℕ, suc, ◌+◌, ◌<◌}
use native.Mathlib.Omega.{arith}
use native.Mathlib.Numerals.{add-one}
use mathlib.Core.Path.{◌≡◌, refl, ap, ◌∙◌}
use mathlib.Core.Bool.{Bool, true, false, cond}
use mathlib.Core.List.{List, [], ◌∷◌, map}
use lib.ListN.{length, set}
use lib.Seq.{sets, set-set}
use lib.IntN.{ℤ}
use mir.Val.{bool_byte}
use lib.ListN.{length-set}
use Rattle.span.specs.Span.{Span}
use Rattle.key.specs.Rank.{key_at}
use Rattle.key.specs.Range.{Kind}
use Rattle.key.proofs.Answers.{one_answer}
use Rattle.range_list.specs.InnerLists.{ListRoom, Puts}
use Rattle.range_list.proofs.Unique.{puts_one}
use Rattle.two_sets.specs.InnerLists.{Counting, Going, Ended}

-- one range more is counted, or none
sum_step : (at : ℕ) {all : ℕ} (todo : List Span) (fresh : Bool) (x : Span) (more : List Span) → at + length todo ≡ all → todo ≡ cond fresh (x ∷ more) more
    → at + bool_byte fresh + length more ≡ all
sum_step at todo true x more g e = let s = rw e at g in omega (arith, s)
sum_step at todo false x more g e = let s = rw e at g in omega (arith, s)

pub counting_step : {goal : List Span} {at : ℕ} {todo : List Span} (fresh : Bool) (x : Span) {more : List Span} → Counting goal at todo
    → todo ≡ cond fresh (x ∷ more) more → Counting goal (at + bool_byte fresh) more
counting_step {at = at} {todo} fresh x {more} g e = record { sum = sum_step at todo fresh x more g.sum e }

pub counting_done : {goal : List Span} {at : ℕ} {todo : List Span} → Counting goal at todo → todo ≡ [] → at ≡ length goal
counting_done g e = let s = rw e at g.sum in omega (arith, s)

pub counting_one : {goal : List Span} {at : ℕ} {todo : List Span} {x : Span} → Counting goal at todo → todo ≡ x ∷ [] → at + 1 ≡ length goal
counting_one g e = let s = rw e at g.sum in omega (arith, s)

-- a place that is written over was never written
over_put : (f : Span → ℤ) (l : List ℤ) (at : ℕ) (v : ℤ) (xs : List Span) → 0 < length xs → sets (set l at v) at (map f xs) ≡ sets l at (map f xs)
over_put f l at v [] h = absurd (omega arith)
over_put f l at v (x ∷ xs) h = ap (λ (m : List ℤ). sets m (suc at) (map f xs)) (set-set l at v (f x))

-- one column, with a range written at its place: the next place is as before, or the same one is still open
column_step : (f : Span → ℤ) (l : List ℤ) {l₁ to : List ℤ} (at : ℕ) (fresh : Bool) (x : Span) (more : List Span) → 0 < length more
    → sets l at (map f (cond fresh (x ∷ more) more)) ≡ to → l₁ ≡ set l at (f x) → sets l₁ (at + bool_byte fresh) (map f more) ≡ to
column_step f l at true x more h t e = rw (e, add-one at) t
column_step f l at false x more h t e =
    let n : at + 0 ≡ at = omega arith in
    rw (e, n) (over_put f l at (f x) more h ∙ t)

module _ (kind : Kind) {n : ℕ} {os oe : List ℤ} {goal : List Span} where
  pub going_first : Going kind n os oe goal n goal os oe
  going_first = record { count = refl; starts_as = refl; ends_as = refl; starts = refl; ends = refl }

  module _ {at : ℕ} {todo : List Span} {os₁ oe₁ : List ℤ} (g : Going kind n os oe goal at todo os₁ oe₁) where
    -- there is a place for the next range
    pub going_room : 0 < length todo → ListRoom n goal os oe → (at < length os₁) × (at < length oe₁)
    going_room h r = (omega (arith, g.count, g.starts_as, r.starts), omega (arith, g.count, g.ends_as, r.ends))

    -- and for all that are left
    pub going_rest : ListRoom n goal os oe → ListRoom at todo os₁ oe₁
    going_rest r = record { starts = omega (arith, g.count, g.starts_as, r.starts); ends = omega (arith, g.count, g.ends_as, r.ends) }

    -- the open range x is written: it is done, or it stays open
    pub going_step : (fresh : Bool) (x : Span) {more : List Span} {os₂ oe₂ : List ℤ} → todo ≡ cond fresh (x ∷ more) more → 0 < length more
        → os₂ ≡ set os₁ at (key_at x.lo) → oe₂ ≡ set oe₁ at (kind.ending x.hi) → Going kind n os oe goal (at + bool_byte fresh) more os₂ oe₂
    going_step fresh x {more} e h s t = record {
      count = sum_step at todo fresh x more g.count e;
      starts_as = rw s (length-set os₁ at _ ∙ g.starts_as);
      ends_as = rw t (length-set oe₁ at _ ∙ g.ends_as);
      starts = column_step (λ (x : Span). key_at x.lo) os₁ at fresh x more h (rw e at g.starts) s;
      ends = column_step (λ (x : Span). kind.ending x.hi) oe₁ at fresh x more h (rw e at g.ends) t;
    }

    -- all that were left are written
    pub going_done : {r : ℕ} {os₂ oe₂ : List ℤ} → Ended kind at todo os₁ oe₁ r os₂ oe₂ → Ended kind n goal os oe r os₂ oe₂
    going_done w = record { count = w.count ∙ g.count; puts = record { starts = w.puts.starts ∙ g.starts; ends = w.puts.ends ∙ g.ends } }

    -- the last is written
    pub going_last : (x : Span) {os₂ oe₂ : List ℤ} → todo ≡ x ∷ [] → os₂ ≡ set os₁ at (key_at x.lo) → oe₂ ≡ set oe₁ at (kind.ending x.hi)
        → Ended kind n goal os oe (at + 1) os₂ oe₂
    going_last x e s t = going_done (rw e (record { count = refl; puts = record { starts = s; ends = t } }))

-- the number of ranges that were written from the first place on
pub from_first : {kind : Kind} {xs : List Span} {os oe os₁ oe₁ : List ℤ} {r : ℕ} → Ended kind 0 xs os oe r os₁ oe₁
    → (r ≡ length xs) × Puts kind 0 xs os oe os₁ oe₁
from_first w = (omega (arith, w.count), w.puts)

-- nothing was written before, and all is written now; and there is nothing to write
module _ (kind : Kind) {os oe os₁ oe₁ : List ℤ} {goal todo : List Span} (s : os₁ ≡ os) (e : oe₁ ≡ oe) (t : goal ≡ todo) where
  pub first_room : ListRoom 0 goal os oe → ListRoom 0 todo os₁ oe₁
  first_room r = rw (s, e, ← t) r

  pub first_written : {r : ℕ} {os₂ oe₂ : List ℤ} → Ended kind 0 todo os₁ oe₁ r os₂ oe₂ → Ended kind 0 goal os oe r os₂ oe₂
  first_written w = record {
    count = rw t w.count;
    puts = record { starts = rw (← s, t) w.puts.starts; ends = rw (← e, t) w.puts.ends };
  }

  pub none_written : todo ≡ [] → Ended kind 0 goal os oe 0 os₁ oe₁
  none_written n = let g = t ∙ n in record { count = rw g refl; puts = record { starts = rw g s; ends = rw g e } }

-- ONE OUTCOME of what is written: the number, and both lent lists
pub ended_one : {kind : Kind} {n r t : ℕ} {xs : List Span} {os oe ss es ss' es' : List ℤ} → Ended kind n xs os oe r ss es → Ended kind n xs os oe t ss' es'
    → (r ≡ t) × (ss ≡ ss') × (es ≡ es')
ended_one a b = let p = puts_one a.puts b.puts in (one_answer a.count b.count, p.0, p.1)
